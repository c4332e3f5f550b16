-- One step of the road, and the run.
use Rattle.std.specs.Prelude.{ℕ, zero, suc, ◌+◌, []}
use Rattle.road_plan.specs.Plan.{Plan, exit_start}
use Rattle.road_plan.specs.Settings.{Settings}
use Rattle.road_cells.specs.Array.{Array, vehicle_at, array}
use Rattle.road_rules.specs.Motion.{arrival_at}
use Rattle.road_ends.specs.Entries.{road_with_entries}
use Rattle.road_ends.specs.Speed.{speed}

-- the settings of each step: all that a run knows of edits
abbrev pub Course : Type 0
Course = ℕ → Settings

-- the array after the motion: each place before the deleted zone holds the car that arrives there; all others are empty
-- (rule 4, and the deleted zone)
abbrev pub road_after_motion : Plan → Settings → ℕ → Array → Array
road_after_motion p s t a = array (exit_start p) (arrival_at (speed p s t a) a)

-- the array without the cars in the deleted zone or past it
abbrev pub road_before_exit : Plan → Array → Array
road_before_exit p a = array (exit_start p) (vehicle_at a)

-- one step: entries, then motion and deletion
abbrev pub road_after_step : Plan → Settings → ℕ → Array → Array
road_after_step p s t a = road_after_motion p s t (road_with_entries p s t a)

-- the road at each step: empty at step 0
abbrev pub run : Plan → Course → ℕ → Array
run p course zero = []
run p course (suc t) = road_after_step p (course t) t (run p course t)

-- the road of a step with the cars that have entered, before they move
abbrev pub road_before_motion : Plan → Course → ℕ → Array
road_before_motion p course t = road_with_entries p (course t) t (run p course t)

-- the road after k steps from an array, the first of them step t
abbrev pub road_after_steps : Plan → Course → ℕ → ℕ → Array → Array
road_after_steps p course t zero a = a
road_after_steps p course t (suc k) a = road_after_step p (course (t + k)) (t + k) (road_after_steps p course t k a)
