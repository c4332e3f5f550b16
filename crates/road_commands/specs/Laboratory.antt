-- A laboratory: a world whose replicas and messages have names, and its answers to commands.
use Rattle.std.specs.Prelude.{ℕ, max, List, [], ◌∷◌, ◌++◌, length, map, is_some, is_none, if◌then◌else◌, Result}
use Rattle.std.specs.Prelude.{Bool, true, false}
use Rattle.std.specs.List.{position, slice_get}
use Rattle.std.specs.Option.{option_and_then, option_map_or, option_or}
use Rattle.std.specs.Str.{bytes_eq}
use Rattle.std.specs.declared.option.Option.{Option}
use Rattle.std.specs.declared.option.Option.TheVariants.{None, Some}
use Rattle.std.specs.declared.result.Result.TheVariants.{Ok, Err}
use Rattle.lattice_core.specs.Sets.{from_list, items, union}
use Rattle.road_cells.specs.Array.{Array}
use Rattle.road_cells.specs.Cars.{cars_of}
use Rattle.road_plan.specs.Plan.{Plan}
use Rattle.road_plan.specs.declared.object.Object.{Object}
use Rattle.road_scenario.specs.Edits.{Edits}
use Rattle.road_scenario.specs.Touched.{first_touched_step}
use Rattle.road_scenario.specs.Winners.{winners}
use Rattle.road_scenario.specs.declared.edit.Edit as edit
use Rattle.road_scenario.specs.declared.edit.Value.{Value}
use Rattle.road_scenario.specs.declared.edit.Value.TheVariants.{Put, Withdrawn}
use Rattle.road_delta.specs.Deltas.{beyond, heads}
use Rattle.road_detector.specs.declared.counts.Totals.{Totals}
use Rattle.road_sheet.specs.Sheets.{Sheet, sheet_row, rows_of, state_of, total_of}
use Rattle.road_sheet.specs.Shown.{row_at}
use Rattle.road_replica.specs.Crowds.{crowd_winners, crowd_writes, shares_fault}
use Rattle.road_replica.specs.Refusals.{import_fault, rows_fault, state_fault, totals_fault}
use Rattle.road_replica.specs.Replicas.{local_edit}
use Rattle.road_replica.specs.declared.faults.ReplicaFault.{ReplicaFault}
use Rattle.road_replica.specs.declared.faults.ReplicaFault.TheVariants as replica_faults
use Rattle.road_workers.specs.Crews.{gone_after}
use Rattle.road_workers.specs.declared.faults.CrewFault.{CrewFault}
use Rattle.road_workers.specs.declared.faults.CrewFault.TheVariants as crew_faults
use Rattle.road_world.specs.Answers.{fault_at_replica, sheet_at}
use Rattle.road_world.specs.Events.{World, asked_heads, carried_edits, opening_world, replica_at}
use Rattle.road_world.specs.Events.{world_after_event, world_of_winners, world_with_edits}
use Rattle.road_world.specs.declared.event.Event.{Event}
use Rattle.road_world.specs.declared.event.Event.TheVariants as events
use Rattle.road_world.specs.declared.faults.WorldFault.{WorldFault}
use Rattle.road_world.specs.declared.faults.WorldFault.TheVariants as world_faults
use Rattle.road_format.specs.CommandGrammar as commands
use Rattle.road_format.specs.CommandGrammar.{Command, Query, replica_name}
use Rattle.road_format.specs.PlanGrammar.{PlanLine}
use Rattle.road_format.specs.Replies as replies
use Rattle.road_format.specs.Replies.{Answer, Counted, Delta, Horizon, Refused, Sent, Stamped, Touched}
use Rattle.road_format.specs.declared.refusal.Refusal.{Refusal}
use Rattle.road_format.specs.declared.refusal.Refusal.TheVariants as refusals

-- the names of the replicas, in the order of their numbers; the names of the messages, in the order in which they were
-- made; and the world of these replicas and messages
pub record Laboratory : Type 0 where
  pub replica_names : List (List ℕ)
  pub message_names : List (List ℕ)
  pub world : World

-- the laboratory of a plan line, before any command
abbrev pub opening_laboratory : PlanLine → Laboratory
opening_laboratory line = record {
  replica_names = line.names;
  message_names = [];
  world = opening_world line.plan (length line.names);
}

-- the laboratory whose replicas and messages hold only the winners
abbrev pub laboratory_of_winners : Laboratory → Laboratory
laboratory_of_winners lab = record lab { world = world_of_winners lab.world }

-- the outcome of a command: its answer, and the laboratory after it
pub record Outcome : Type 0 where
  pub answer : Answer
  pub after : Laboratory

-- ---- refusals

-- a refused command changes nothing
abbrev pub refusal_outcome : Laboratory → Refusal → Outcome
refusal_outcome lab refusal = record { answer = Refused refusal; after = lab }

-- the outcome of the refusal, if there is one, otherwise the given outcome
abbrev pub outcome_unless : Laboratory → Option Refusal → Outcome → Outcome
outcome_unless lab (Some refusal) outcome = refusal_outcome lab refusal
outcome_unless lab None outcome = outcome

-- the answer to a replica's refusal; `WorkersGone` and `OutOfMemory` have none
abbrev pub replica_refusal : ReplicaFault → Option Refusal
replica_refusal replica_faults.NoObject = Some refusals.NoObject
replica_refusal replica_faults.Step = Some refusals.Step
replica_refusal replica_faults.ValueOutOfRange = Some refusals.ValueOutOfRange
replica_refusal replica_faults.Count = Some refusals.Count
replica_refusal replica_faults.Insider = Some refusals.Insider
replica_refusal replica_faults.CountsSpent = Some refusals.CountsSpent
replica_refusal replica_faults.Horizon = Some refusals.Horizon
replica_refusal replica_faults.NoDetector = Some refusals.NoDetector
replica_refusal replica_faults.Range = Some refusals.Range
replica_refusal replica_faults.NotSimulated = Some refusals.NotSimulated
replica_refusal replica_faults.WorkersGone = None
replica_refusal replica_faults.OutOfMemory = None

-- the answer to a world's refusal
abbrev pub world_refusal : WorldFault → Option Refusal
world_refusal world_faults.NoReplica = Some refusals.NoReplica
world_refusal world_faults.NoMessage = Some refusals.NoMessage
world_refusal (world_faults.Replica fault) = replica_refusal fault

-- ---- names

-- the number of the replica or message with this name: its place in the list
abbrev pub number_of : List (List ℕ) → List ℕ → Option ℕ
number_of names name = position (bytes_eq name) names

-- the outcome for the number, if there is one, otherwise that of the refusal
abbrev pub outcome_by_number : Laboratory → Refusal → Option ℕ → (ℕ → Outcome) → Outcome
outcome_by_number lab refusal None next = refusal_outcome lab refusal
outcome_by_number lab refusal (Some number) next = next number

-- the refusal of a name for a new message, if another message has it
abbrev pub name_refusal : Laboratory → List ℕ → Option Refusal
name_refusal lab name = if is_some (number_of lab.message_names name) then Some refusals.NameTaken else None

-- ---- changes

-- the winners of the edits that replica r holds
abbrev pub edits_held : World → ℕ → Edits
edits_held w r = winners (replica_at w r).edits

-- an event takes place, unless the world refuses it
abbrev pub change_outcome : Laboratory → Event → Answer → Outcome
change_outcome lab event answer =
    outcome_unless lab (option_and_then world_refusal (fault_at_replica lab.world event)) (record {
      answer = answer;
      after = record lab { world = world_after_event event lab.world };
    })

-- an event that makes a message takes place, unless the world refuses it or the message's name is taken
abbrev pub message_outcome : Laboratory → Event → List ℕ → Answer → Outcome
message_outcome lab event name answer =
    outcome_unless lab
    (option_or (option_and_then world_refusal (fault_at_replica lab.world event)) (name_refusal lab name)) (record {
      answer = answer;
      after = record lab {
        message_names = lab.message_names ++ name ∷ [];
        world = world_after_event event lab.world;
      };
    })

-- the answer to an edit that replica r makes: its stamp
abbrev pub stamp_answer : World → ℕ → Object → ℕ → Value → Answer
stamp_answer w r object step value = Stamped (local_edit r (replica_at w r).edits object step value).stamp

-- the answer to edits that reach replica r: the first step that they touch
abbrev pub touched_answer : World → ℕ → Edits → Answer
touched_answer w r edits = Touched (first_touched_step (replica_at w r).edits (union (replica_at w r).edits edits))

-- Edits reach replica r from outside, unless it refuses them. This is the outcome of the event `Import`. The event is
-- not named here, because it owns a list of the program, which a definition cannot make.
abbrev pub import_outcome : Laboratory → ℕ → List edit.Edit → Outcome
import_outcome lab r edits =
    outcome_unless lab (option_and_then replica_refusal (import_fault lab.world.plan edits)) (record {
      answer = touched_answer lab.world r (from_list edits);
      after = record lab { world = world_with_edits r (from_list edits) lab.world };
    })

-- replica r sends all edits that it holds; the answer is their number
abbrev pub send_outcome : Laboratory → ℕ → List ℕ → Outcome
send_outcome lab r name = message_outcome lab (events.Send r) name (Sent name (length (items (edits_held lab.world r))))

-- replica r sends the heads of all edits that it holds
abbrev pub heads_outcome : Laboratory → ℕ → List ℕ → Outcome
heads_outcome lab r name =
    message_outcome lab (events.Heads r) name (replies.Heads name (heads (edits_held lab.world r)))

-- replica r sends the edits that it holds beyond the heads of a message
abbrev pub beyond_outcome : Laboratory → ℕ → List ℕ → List ℕ → Outcome
beyond_outcome lab r asked name =
    outcome_by_number lab refusals.NoMessage (number_of lab.message_names asked) (λ message.
    message_outcome lab (events.Beyond r message) name
    (Delta name (items (beyond (edits_held lab.world r) (asked_heads (slice_get lab.world.messages message))))))

-- a message with edits reaches replica r
abbrev pub take_outcome : Laboratory → ℕ → List ℕ → Outcome
take_outcome lab r name =
    outcome_by_number lab refusals.NoMessage (number_of lab.message_names name) (λ message.
    change_outcome lab (events.Take r message)
    (touched_answer lab.world r (carried_edits (slice_get lab.world.messages message))))

-- ---- queries: they change nothing

-- the refusal if there is one, and otherwise the answer
abbrev pub answer_unless : Option Refusal → Answer → Answer
answer_unless (Some refusal) answer = Refused refusal
answer_unless None answer = answer

-- the cars of a road (number, cell, speed), sorted by cell
abbrev pub cars_of_state : Array → List (ℕ × ℕ × ℕ)
cars_of_state road = map (λ car. (car.number, car.cell, car.speed)) (cars_of road)

-- cars and the sum of their speeds, as an answer
abbrev pub totals_answer : Totals → Answer
totals_answer totals = Counted totals.cars totals.speeds

-- why a sheet refuses a query, if it refuses it
abbrev pub query_fault : Sheet → Query → Option ReplicaFault
query_fault sheet (commands.Cells step) = state_fault sheet step
query_fault sheet (commands.Cars step) = state_fault sheet step
query_fault sheet (commands.Count detector from to) = totals_fault sheet detector from to
query_fault sheet (commands.Diagram from to) = rows_fault sheet from to
query_fault sheet commands.Scenario = None

-- the answer of a sheet to a query that it does not refuse
abbrev pub sheet_answer : Sheet → Query → Answer
sheet_answer sheet (commands.Cells step) = replies.Cells (sheet_row sheet step)
sheet_answer sheet (commands.Cars step) = replies.Cars (cars_of_state (state_of sheet step))
sheet_answer sheet (commands.Count detector from to) = totals_answer (total_of sheet detector from to)
sheet_answer sheet (commands.Diagram from to) = replies.Rows (rows_of sheet from to)
sheet_answer sheet commands.Scenario = replies.Edits (items (winners sheet.edits))

-- the answer of a sheet to a query, which may be a refusal
abbrev pub query_answer : Sheet → Query → Answer
query_answer sheet query =
    answer_unless (option_and_then replica_refusal (query_fault sheet query)) (sheet_answer sheet query)

-- the outcome of a query: it changes nothing
abbrev pub query_outcome : Laboratory → Answer → Outcome
query_outcome lab answer = record { answer = answer; after = lab }

-- ---- crowds: they use no replica, and change nothing

-- Why a crowd is refused: for its first edit, in the order of the shares, that a replica would refuse, or for its step.
abbrev pub crowd_refusal : Plan → List (List edit.Edit) → ℕ → Option Refusal
crowd_refusal plan shares to = option_and_then replica_refusal (shares_fault plan shares to)

-- the result of a crowd: the winners of all edits, the number of its writes, and the row of the step
abbrev pub crowd_answer : Plan → List (List edit.Edit) → ℕ → Answer
crowd_answer plan shares to =
    replies.Crowd (items (crowd_winners shares)) (crowd_writes shares) (row_at plan (crowd_winners shares) to)

-- the outcome of a crowd
abbrev pub crowd_outcome : Laboratory → List (List edit.Edit) → ℕ → Outcome
crowd_outcome lab shares to =
    query_outcome lab
    (answer_unless (crowd_refusal lab.world.plan shares to) (crowd_answer lab.world.plan shares to))

-- ---- commands

-- the outcome of a command to replica r
abbrev pub outcome_at : Laboratory → ℕ → Command → Outcome
outcome_at lab r (commands.Edit at object step number) =
    change_outcome lab (events.Edit r object step number) (stamp_answer lab.world r object step (Put number))
outcome_at lab r (commands.Withdraw at object step) =
    change_outcome lab (events.Withdraw r object step) (stamp_answer lab.world r object step Withdrawn)
outcome_at lab r (commands.Import at edits) = import_outcome lab r edits
outcome_at lab r (commands.Send at name) = send_outcome lab r name
outcome_at lab r (commands.Heads at name) = heads_outcome lab r name
outcome_at lab r (commands.Beyond at asked name) = beyond_outcome lab r asked name
outcome_at lab r (commands.Take at message) = take_outcome lab r message
outcome_at lab r (commands.Advance at to) =
    change_outcome lab (events.Advance r to) (Horizon (max (replica_at lab.world r).horizon to))
outcome_at lab r (commands.Ask at query) = query_outcome lab (query_answer (sheet_at lab.world r) query)
outcome_at lab r (commands.Crowd shares to) = crowd_outcome lab shares to

-- the outcome of a command if its replica is looked up first
abbrev pub outcome_by_name : Laboratory → Command → Outcome
outcome_by_name lab command =
    outcome_by_number lab refusals.NoReplica
    (option_and_then (number_of lab.replica_names) (replica_name command)) (λ r.
    outcome_at lab r command)

-- the shares and the step of a command that is a crowd
abbrev pub crowd_of : Command → Option (List (List edit.Edit) × ℕ)
crowd_of (commands.Crowd shares to) = Some (shares, to)
crowd_of command = None

-- the outcome of a command: a crowd needs no replica; for every other command the replica is looked up first
abbrev pub outcome : Laboratory → Command → Outcome
outcome lab command =
    option_map_or (λ crowd. crowd_outcome lab crowd.0 crowd.1) (crowd_of command) (outcome_by_name lab command)

-- the answer to a command
abbrev pub answer_to : Laboratory → Command → Answer
answer_to lab command = (outcome lab command).answer

-- the laboratory after a command
abbrev pub laboratory_after : Laboratory → Command → Laboratory
laboratory_after lab command = (outcome lab command).after

-- whether a command is a crowd that is not refused: its sessions then run on threads of their own
abbrev pub is_gathered : Plan → Command → Bool
is_gathered plan command =
    option_map_or (λ crowd. is_none (crowd_refusal plan crowd.0 crowd.1)) (crowd_of command) false

-- how often a crew has returned `WorkersGone`, after the result of a command; a crowd that is gathered uses no crew
abbrev pub gone_after_command : {A : Type 0} → Result A CrewFault → Bool → ℕ → ℕ
gone_after_command (Ok answer) gathered n = n
gone_after_command (Err crew_faults.OutOfMemory) gathered n = n
gone_after_command (Err crew_faults.WorkersGone) true n = n
gone_after_command (Err crew_faults.WorkersGone) false n = gone_after {A = Answer} (Err crew_faults.WorkersGone) n
