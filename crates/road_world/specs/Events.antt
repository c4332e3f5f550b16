-- The effects of events in a world of replicas.
use Rattle.std.specs.Prelude.{ℕ, Bool, true, false, max, List, [], ◌∷◌, ◌++◌, map, replicate, slice_set, Result}
use Rattle.std.specs.List.{slice_index_or, slice_get}
use Rattle.std.specs.declared.option.Option.{Option}
use Rattle.std.specs.declared.option.Option.TheVariants.{None, Some}
use Rattle.std.specs.declared.result.Result.TheVariants.{Ok, Err}
use Rattle.lattice_core.specs.Sets.{empty, union, from_list}
use Rattle.road_plan.specs.Plan.{Plan}
use Rattle.road_plan.specs.declared.object.Object.{Object}
use Rattle.road_scenario.specs.Edits.{Edits}
use Rattle.road_scenario.specs.Winners.{winners}
use Rattle.road_scenario.specs.declared.edit.Value.{Value}
use Rattle.road_scenario.specs.declared.edit.Value.TheVariants.{Withdrawn, Put}
use Rattle.road_delta.specs.Deltas.{heads, beyond}
use Rattle.road_delta.specs.declared.heads.Head.{Head}
use Rattle.road_replica.specs.Replicas.{local_edit, single_edit}
use Rattle.road_replica.specs.declared.reply.Reply.{Reply}
use Rattle.road_world.specs.declared.event.Event.{Event}
use Rattle.road_world.specs.declared.event.Event.TheVariants.{Edit, Withdraw, Import, Send}
use Rattle.road_world.specs.declared.event.Event.TheVariants.{Heads, Beyond, Take, Advance}
use Rattle.road_world.specs.declared.message.Message.{Message}
use Rattle.road_world.specs.declared.message.Message.TheVariants.{Whole, Answer, Asked}
use Rattle.road_world.specs.declared.sending.Sending.{Sending}
use Rattle.road_world.specs.declared.sending.Sending.TheVariants as sendings
use Rattle.road_world.specs.declared.faults.WorldFault.{WorldFault}

-- a replica in a world: the edits that reached it, and the latest step to which it was advanced
pub record WorldReplica : Type 0 where
  pub edits : Edits
  pub horizon : ℕ

-- the replicas of a plan, numbered from 0, and the messages in the order in which they were made
pub record World : Type 0 where
  pub plan : Plan
  pub replicas : List WorldReplica
  pub messages : List Message

-- a replica before any event
abbrev pub opening_replica : WorldReplica
opening_replica = record { edits = empty; horizon = 0 }

-- a world of `count` replicas before any event
abbrev pub opening_world : Plan → ℕ → World
opening_world plan count = record { plan = plan; replicas = replicate count opening_replica; messages = [] }

-- replica r of a world
abbrev pub replica_at : World → ℕ → WorldReplica
replica_at w r = slice_index_or w.replicas r opening_replica

-- ---- one event

-- the world after edits reached replica r
abbrev pub world_with_edits : ℕ → Edits → World → World
world_with_edits r edits w =
    let reached = record (replica_at w r) { edits = union (replica_at w r).edits edits } in
    record w { replicas = slice_set w.replicas r reached }

-- the world after replica r made an edit
abbrev pub world_with_local_edit : ℕ → Object → ℕ → Value → World → World
world_with_local_edit r object step value w =
    world_with_edits r (single_edit (local_edit r (replica_at w r).edits object step value)) w

-- the world after replica r was advanced to a step
abbrev pub world_with_advance : ℕ → ℕ → World → World
world_with_advance r to w =
    let advanced = record (replica_at w r) { horizon = max (replica_at w r).horizon to } in
    record w { replicas = slice_set w.replicas r advanced }

-- the edits of a message. There are no edits if it has heads or does not exist, but then no accepted event takes it
abbrev pub carried_edits : Option Message → Edits
carried_edits (Some (Whole edits)) = edits
carried_edits (Some (Answer edits)) = edits
carried_edits (Some (Asked hs)) = empty
carried_edits None = empty

-- the heads of a message. There are no heads if it has edits or does not exist, but then no accepted event answers it
abbrev pub asked_heads : Option Message → List Head
asked_heads (Some (Whole edits)) = []
asked_heads (Some (Answer edits)) = []
asked_heads (Some (Asked hs)) = hs
asked_heads None = []

-- whether an event makes a message
abbrev pub makes_message : Event → Bool
makes_message (Edit r object step number) = false
makes_message (Withdraw r object step) = false
makes_message (Import r edits) = false
makes_message (Send r) = true
makes_message (Heads r) = true
makes_message (Beyond r message) = true
makes_message (Take r message) = false
makes_message (Advance r to) = false

-- the event in which replica r makes a message
abbrev pub sending_event : ℕ → Sending → Event
sending_event r sendings.Whole = Send r
sending_event r sendings.Asked = Heads r
sending_event r (sendings.Answer message) = Beyond r message

-- the message that an event makes, if it makes one, given what its replica holds
abbrev pub message_of_event : World → Event → Option Message
message_of_event w (Send r) = Some (Whole (replica_at w r).edits)
message_of_event w (Heads r) = Some (Asked (heads (winners (replica_at w r).edits)))
message_of_event w (Beyond r message) =
    let asked = asked_heads (slice_get w.messages message) in
    Some (Answer (beyond (winners (replica_at w r).edits) asked))
message_of_event w event = None

-- messages, followed by the new one, if there is one
abbrev pub messages_with : Option Message → List Message → List Message
messages_with None messages = messages
messages_with (Some message) messages = messages ++ message ∷ []

-- the world after an event that makes a message
abbrev pub world_with_made : Event → World → World
world_with_made event w = record w { messages = messages_with (message_of_event w event) w.messages }

-- the world after an accepted event
abbrev pub world_after_event : Event → World → World
world_after_event (Edit r object step number) w = world_with_local_edit r object step (Put number) w
world_after_event (Withdraw r object step) w = world_with_local_edit r object step Withdrawn w
world_after_event (Import r edits) w = world_with_edits r (from_list edits.items) w
world_after_event (Send r) w = world_with_made (Send r) w
world_after_event (Heads r) w = world_with_made (Heads r) w
world_after_event (Beyond r message) w = world_with_made (Beyond r message) w
world_after_event (Take r message) w = world_with_edits r (carried_edits (slice_get w.messages message)) w
world_after_event (Advance r to) w = world_with_advance r to w

-- ---- lists of events

-- the world after some events, in order
abbrev pub world_after_events : List Event → World → World
world_after_events [] w = w
world_after_events (event ∷ events) w = world_after_events events (world_after_event event w)

-- the events that were accepted, by their replies
abbrev pub accepted_events : List Event → List (Result Reply WorldFault) → List Event
accepted_events [] replies = []
accepted_events (event ∷ events) [] = []
accepted_events (event ∷ events) (Ok reply ∷ replies) = event ∷ accepted_events events replies
accepted_events (event ∷ events) (Err fault ∷ replies) = accepted_events events replies

-- the world that events with these replies make: a refused event does nothing
abbrev pub world_of_events : Plan → ℕ → List Event → List (Result Reply WorldFault) → World
world_of_events plan count events replies =
    world_after_events (accepted_events events replies) (opening_world plan count)

-- the effect of these events on replica r
abbrev pub replica_after_events : Plan → ℕ → List Event → List (Result Reply WorldFault) → ℕ → WorldReplica
replica_after_events plan count events replies r = replica_at (world_of_events plan count events replies) r

-- ---- only the winners

-- a replica that holds only the winners
abbrev pub replica_of_winners : WorldReplica → WorldReplica
replica_of_winners replica = record replica { edits = winners replica.edits }

-- a message that carries only the winners
abbrev pub message_of_winners : Message → Message
message_of_winners (Whole edits) = Whole (winners edits)
message_of_winners (Answer edits) = Answer (winners edits)
message_of_winners (Asked hs) = Asked hs

-- the world whose replicas and messages hold only the winners
abbrev pub world_of_winners : World → World
world_of_winners w = record w {
  replicas = map replica_of_winners w.replicas;
  messages = map message_of_winners w.messages;
}
