-- The number of steps that events cost.
use Rattle.std.specs.Prelude.{ℕ, ◌+◌, List, [], ◌∷◌, Result, unwrap_or}
use Rattle.std.specs.List.{slice_get}
use Rattle.std.specs.Option.{option_map}
use Rattle.std.specs.declared.option.Option.{Option}
use Rattle.std.specs.declared.option.Option.TheVariants.{None, Some}
use Rattle.std.specs.declared.result.Result.TheVariants.{Ok, Err}
use Rattle.lattice_core.specs.Sets.{from_list}
use Rattle.road_scenario.specs.declared.edit.Value.TheVariants.{Withdrawn, Put}
use Rattle.road_sheet.specs.Commands.{SheetCommand}
use Rattle.road_sheet.specs.Commands as commands
use Rattle.road_replica.specs.Replicas.{edit_made, single_edit}
use Rattle.road_replica.specs.Writes.{most_steps_of_command, steps_of_command}
use Rattle.road_replica.specs.declared.reply.Reply.{Reply}
use Rattle.road_world.specs.Answers.{fault_of_event, replica_number, replica_with_sheet, sheet_at, world_after_answer}
use Rattle.road_world.specs.Events.{World, carried_edits}
use Rattle.road_world.specs.declared.event.Event.{Event}
use Rattle.road_world.specs.declared.event.Event.TheVariants.{Edit, Withdraw, Import, Send, Heads, Beyond}
use Rattle.road_world.specs.declared.event.Event.TheVariants.{Take, Advance}
use Rattle.road_world.specs.declared.faults.WorldFault.{WorldFault}

-- ---- one event

-- the command of an event to the sheet of its replica; the making of a message has none
abbrev pub command_of_event : World → Event → Option SheetCommand
command_of_event w (Edit r object step number) =
    Some (commands.Take (single_edit (edit_made (replica_with_sheet w r) object step (Put number))))
command_of_event w (Withdraw r object step) =
    Some (commands.Take (single_edit (edit_made (replica_with_sheet w r) object step Withdrawn)))
command_of_event w (Import r edits) = Some (commands.Take (from_list edits.items))
command_of_event w (Send r) = None
command_of_event w (Heads r) = None
command_of_event w (Beyond r message) = None
command_of_event w (Take r message) = Some (commands.Take (carried_edits (slice_get w.messages message)))
command_of_event w (Advance r to) = Some (commands.Advance to)

-- the steps computed for an accepted event: those of its command
abbrev pub steps_of_event : World → Event → ℕ
steps_of_event w event = unwrap_or
    (option_map (λ command. steps_of_command command (sheet_at w (replica_number event))) (command_of_event w event)) 0

-- the most steps computed for an event, even if it is refused
abbrev pub most_steps_of_event : World → Event → ℕ
most_steps_of_event w event = unwrap_or
    (option_map (λ command. most_steps_of_command command (sheet_at w (replica_number event)))
    (command_of_event w event)) 0

-- ---- one event and its answer

-- the steps computed for an event if it is accepted
abbrev pub steps_of_answer : World → Event → Result Reply WorldFault → ℕ
steps_of_answer w event (Ok reply) = steps_of_event w event
steps_of_answer w event (Err fault) = 0

-- this number of steps if no named cause applies, and else none
abbrev pub steps_unless : Option WorldFault → ℕ → ℕ
steps_unless None steps = steps
steps_unless (Some cause) steps = 0

-- the most steps computed for an event that is then refused: none if a named cause applies
abbrev pub most_wasted_steps : World → Event → Result Reply WorldFault → ℕ
most_wasted_steps w event (Ok reply) = 0
most_wasted_steps w event (Err fault) = steps_unless (fault_of_event w event) (most_steps_of_event w event)

-- ---- lists of events, each in the world after the events before it

-- the sum of the counts of some events with these answers, each in the world after the events before it
abbrev pub sum_of_answers : (World → Event → Result Reply WorldFault → ℕ)
    → World → List Event → List (Result Reply WorldFault) → ℕ
sum_of_answers count w [] replies = 0
sum_of_answers count w (event ∷ events) [] = 0
sum_of_answers count w (event ∷ events) (reply ∷ replies) =
    count w event reply + sum_of_answers count (world_after_answer event reply w) events replies

-- the steps computed for the accepted events of a list
abbrev pub steps_of_events : World → List Event → List (Result Reply WorldFault) → ℕ
steps_of_events w events replies = sum_of_answers steps_of_answer w events replies

-- the most steps computed for refused events of a list: those refused because memory ran out or a worker was lost
abbrev pub most_wasted_steps_of_events : World → List Event → List (Result Reply WorldFault) → ℕ
most_wasted_steps_of_events w events replies = sum_of_answers most_wasted_steps w events replies
