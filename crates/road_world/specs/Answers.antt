-- The replies to events, and their refusals.
use Rattle.std.specs.Prelude.{◌≡◌, ◌⊎◌, ℕ, max, nat_lt, List, [], ◌∷◌, length, Result, if◌then◌else◌}
use Rattle.std.specs.List.{slice_get}
use Rattle.std.specs.Option.{option_map}
use Rattle.std.specs.declared.option.Option.{Option}
use Rattle.std.specs.declared.option.Option.TheVariants.{None, Some}
use Rattle.std.specs.declared.result.Result.TheVariants.{Ok, Err}
use Rattle.lattice_core.specs.Sets.{union, from_list}
use Rattle.road_plan.specs.declared.object.Object.{Object}
use Rattle.road_scenario.specs.Edits.{Edits}
use Rattle.road_scenario.specs.Touched.{first_touched_step}
use Rattle.road_scenario.specs.declared.edit.Value.{Value}
use Rattle.road_scenario.specs.declared.edit.Value.TheVariants.{Withdrawn, Put}
use Rattle.road_sheet.specs.Sheets.{Sheet}
use Rattle.road_replica.specs.Refusals.{edit_fault, import_fault, advance_fault, gone_after_fault}
use Rattle.road_replica.specs.Replicas.{Replica, edit_made}
use Rattle.road_replica.specs.declared.faults.ReplicaFault.{ReplicaFault}
use Rattle.road_replica.specs.declared.faults.ReplicaFault.TheVariants.{WorkersGone, OutOfMemory}
use Rattle.road_replica.specs.declared.reply.Reply.{Reply}
use Rattle.road_replica.specs.declared.reply.Reply.TheVariants as replies
use Rattle.road_world.specs.Events.{World, replica_at, carried_edits, world_after_event}
use Rattle.road_world.specs.declared.event.Event.{Event}
use Rattle.road_world.specs.declared.event.Event.TheVariants.{Edit, Withdraw, Import, Send}
use Rattle.road_world.specs.declared.event.Event.TheVariants.{Heads, Beyond, Take, Advance}
use Rattle.road_world.specs.declared.faults.WorldFault.{WorldFault}
use Rattle.road_world.specs.declared.faults.WorldFault.TheVariants.{NoReplica, NoMessage}
use Rattle.road_world.specs.declared.faults.WorldFault.TheVariants as faults
use Rattle.road_world.specs.declared.message.Message.{Message}
use Rattle.road_world.specs.declared.message.Message.TheVariants.{Whole, Answer, Asked}

-- the sheet of replica r of a world: it has all edits that reached the replica in the definition, and their winners in
-- the stored world
abbrev pub sheet_at : World → ℕ → Sheet
sheet_at w r = record { plan = w.plan; edits = (replica_at w r).edits; horizon = (replica_at w r).horizon }

-- replica r of a world, as its number and sheet
abbrev pub replica_with_sheet : World → ℕ → Replica
replica_with_sheet w r = record { number = r; sheet = sheet_at w r }

-- ---- an accepted event

-- the stamp of the edit that replica r makes
abbrev pub stamp_reply : World → ℕ → Object → ℕ → Value → Reply
stamp_reply w r object step value = replies.Stamped (edit_made (replica_with_sheet w r) object step value).stamp

-- the reply if edits reach replica r: the first step that they touch
abbrev pub touched_reply : World → ℕ → Edits → Reply
touched_reply w r edits =
    replies.Touched (first_touched_step (replica_at w r).edits (union (replica_at w r).edits edits))

-- the reply to an accepted event
abbrev pub reply_to_event : World → Event → Reply
reply_to_event w (Edit r object step number) = stamp_reply w r object step (Put number)
reply_to_event w (Withdraw r object step) = stamp_reply w r object step Withdrawn
reply_to_event w (Import r edits) = touched_reply w r (from_list edits.items)
reply_to_event w (Send r) = replies.Message (length w.messages)
reply_to_event w (Heads r) = replies.Message (length w.messages)
reply_to_event w (Beyond r message) = replies.Message (length w.messages)
reply_to_event w (Take r message) = touched_reply w r (carried_edits (slice_get w.messages message))
reply_to_event w (Advance r to) = replies.Horizon (max (replica_at w r).horizon to)

-- ---- the first named cause for which an event is refused

-- the number of the replica at which an event happens
abbrev pub replica_number : Event → ℕ
replica_number (Edit r object step number) = r
replica_number (Withdraw r object step) = r
replica_number (Import r edits) = r
replica_number (Send r) = r
replica_number (Heads r) = r
replica_number (Beyond r message) = r
replica_number (Take r message) = r
replica_number (Advance r to) = r

-- the refusal of an event that needs a message with edits
abbrev pub edits_wanted_fault : Option Message → Option WorldFault
edits_wanted_fault (Some (Whole edits)) = None
edits_wanted_fault (Some (Answer edits)) = None
edits_wanted_fault (Some (Asked hs)) = Some NoMessage
edits_wanted_fault None = Some NoMessage

-- the refusal of an event that needs a message with heads
abbrev pub heads_wanted_fault : Option Message → Option WorldFault
heads_wanted_fault (Some (Whole edits)) = Some NoMessage
heads_wanted_fault (Some (Answer edits)) = Some NoMessage
heads_wanted_fault (Some (Asked hs)) = None
heads_wanted_fault None = Some NoMessage

-- the first named cause for which an event at an existing replica is refused
abbrev pub fault_at_replica : World → Event → Option WorldFault
fault_at_replica w (Edit r object step number) =
    option_map faults.Replica (edit_fault (replica_with_sheet w r) object step (Put number))
fault_at_replica w (Withdraw r object step) =
    option_map faults.Replica (edit_fault (replica_with_sheet w r) object step Withdrawn)
fault_at_replica w (Import r edits) = option_map faults.Replica (import_fault w.plan edits.items)
fault_at_replica w (Send r) = None
fault_at_replica w (Heads r) = None
fault_at_replica w (Beyond r message) = heads_wanted_fault (slice_get w.messages message)
fault_at_replica w (Take r message) = edits_wanted_fault (slice_get w.messages message)
fault_at_replica w (Advance r to) = option_map faults.Replica (advance_fault to)

-- the first named cause for which an event is refused; a missing replica is the first cause
abbrev pub fault_of_event : World → Event → Option WorldFault
fault_of_event w event = if nat_lt (replica_number event) (length w.replicas) then fault_at_replica w event
    else Some NoReplica

-- ---- a query

-- the first named cause for which a query at replica r is refused; a missing replica is the first cause
abbrev pub query_fault : World → ℕ → Option ReplicaFault → Option WorldFault
query_fault w r cause = if nat_lt r (length w.replicas) then option_map faults.Replica cause else Some NoReplica

-- a query is refused for the named cause if there is one, and else for out of memory
abbrev pub IsQueryRefusal : Option WorldFault → WorldFault → Type 0
IsQueryRefusal (Some cause) fault = fault ≡ cause
IsQueryRefusal None fault = fault ≡ faults.Replica OutOfMemory

-- ---- the answer to any event

-- a refusal without a named cause: for out of memory, or for a write also for lost workers
abbrev pub IsUnnamedRefusal : Event → WorldFault → Type 0
IsUnnamedRefusal (Send r) fault = fault ≡ faults.Replica OutOfMemory
IsUnnamedRefusal (Heads r) fault = fault ≡ faults.Replica OutOfMemory
IsUnnamedRefusal (Beyond r message) fault = fault ≡ faults.Replica OutOfMemory
IsUnnamedRefusal event fault = (fault ≡ faults.Replica WorkersGone) ⊎ (fault ≡ faults.Replica OutOfMemory)

-- an event is refused for the named cause if there is one
abbrev pub IsRefusal : Event → Option WorldFault → WorldFault → Type 0
IsRefusal event (Some cause) fault = fault ≡ cause
IsRefusal event None fault = IsUnnamedRefusal event fault

-- the answers that an event may have in a world
abbrev pub IsAnswer : World → Event → Result Reply WorldFault → Type 0
IsAnswer w event (Ok reply) = (fault_of_event w event ≡ None) × (reply ≡ reply_to_event w event)
IsAnswer w event (Err fault) = IsRefusal event (fault_of_event w event) fault

-- the world after an event and its answer
abbrev pub world_after_answer : Event → Result Reply WorldFault → World → World
world_after_answer event (Ok reply) w = world_after_event event w
world_after_answer event (Err fault) w = w

-- one answer for each event, in order, each in the world after the events before it
abbrev pub AreAnswers : World → List Event → List (Result Reply WorldFault) → Type 0
AreAnswers w [] [] = Unit {0}
AreAnswers w (event ∷ events) (reply ∷ replies) =
    IsAnswer w event reply × AreAnswers (world_after_answer event reply w) events replies
AreAnswers w [] (reply ∷ replies) = ⊥
AreAnswers w (event ∷ events) [] = ⊥

-- how often a crew has returned `WorkersGone`, after an answer to an event
abbrev pub gone_after_answer : Result Reply WorldFault → ℕ → ℕ
gone_after_answer (Err (faults.Replica fault)) n = gone_after_fault fault n
gone_after_answer reply n = n

-- how often a crew has returned `WorkersGone`, after the answers to several events
abbrev pub gone_after_answers : List (Result Reply WorldFault) → ℕ → ℕ
gone_after_answers [] n = n
gone_after_answers (reply ∷ replies) n = gone_after_answers replies (gone_after_answer reply n)
