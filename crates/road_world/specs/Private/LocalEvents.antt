-- The events in which replicas make edits.
use Rattle.std.specs.Prelude.{ℕ}
use Rattle.road_plan.specs.declared.object.Object.{Object}
use Rattle.road_scenario.specs.declared.edit.Value.{Value}
use Rattle.road_scenario.specs.declared.edit.Value.TheVariants.{Withdrawn, Put}
use Rattle.road_world.specs.declared.event.Event.{Event}
use Rattle.road_world.specs.declared.event.Event.TheVariants.{Edit, Withdraw}

-- the event in which replica r sets a number, or withdraws what is set
abbrev pub local_event : ℕ → Object → ℕ → Value → Event
local_event r object step (Put number) = Edit r object step number
local_event r object step Withdrawn = Withdraw r object step
