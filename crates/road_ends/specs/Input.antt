-- The input of a step: all that is needed to compute it.
use Rattle.std.specs.Prelude.{ℕ, List, slice_range}
use Rattle.road_plan.specs.Plan.{Plan}
use Rattle.road_plan.specs.Settings.{Settings}
use Rattle.road_cells.specs.Array.{Array}
use Rattle.road_ends.specs.Entries.{road_with_entries}
use Rattle.road_ends.specs.Speed.{speeds}
use Rattle.road_ends.specs.Run.{road_after_motion}

-- a plan, the settings and the number of a step, and the array with the cars that have entered in it
pub record StepInput : Type 0 where
  pub plan : Plan
  pub settings : Settings
  pub step : ℕ
  pub road : Array

-- the input of step t on an array
abbrev pub input_of : Plan → Settings → ℕ → Array → StepInput
input_of p s t a = record { plan = p; settings = s; step = t; road = road_with_entries p s t a }

-- the new speeds of all cars of the step
abbrev pub input_speeds : StepInput → List ℕ
input_speeds input = speeds input.plan input.settings input.step input.road

-- the new speeds of a piece of the cars: those at the places from `first` to before `end`
abbrev pub input_speeds_between : StepInput → ℕ → ℕ → List ℕ
input_speeds_between input first end = slice_range (input_speeds input) first end

-- the array after the step
abbrev pub input_next : StepInput → Array
input_next input = road_after_motion input.plan input.settings input.step input.road
