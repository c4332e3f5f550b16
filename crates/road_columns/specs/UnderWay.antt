-- A run under way.
use Rattle.std.specs.Prelude.{◌≡◌, ℕ, ◌+◌, ◌^◌, ◌<◌, ◌≤◌, List, [], length, map, min}
use Rattle.std.specs.List.{All, range_with_len, slice_index_or}
use Rattle.road_plan.specs.Plan.{Plan, exit_start}
use Rattle.road_plan.specs.Settings.{Settings}
use Rattle.road_cells.specs.Array.{Array}
use Rattle.road_cells.specs.Cars.{cars_of}
use Rattle.road_cells.specs.declared.car.Car.{Car}
use Rattle.road_cells.specs.declared.car.TheConstants.{GREATEST_SPEED}
use Rattle.road_ends.specs.Input.{StepInput, input_next, input_speeds}
use Rattle.road_ends.specs.EntriesBetween.{input_between}
use Rattle.road_detector.specs.Passes.{no_totals, passes_at, plus}
use Rattle.road_detector.specs.declared.counts.Totals.{Totals}

-- a run under way: a plan, settings, the number of the next step, the cells from lo to before hi, the road before that
-- step, and the counts of the detectors since they were last zero
pub record UnderWay : Type 0 where
  pub plan : Plan
  pub settings : Settings
  pub step : ℕ
  pub lo : ℕ
  pub hi : ℕ
  pub road : Array
  pub totals : List Totals

-- a run can hold a car: the car is on the cells from lo to before hi, before the exit, is not too fast, and has a
-- number below 2^32
pub record CanRun (lo hi exit : ℕ) (car : Car) : Type 0 where
  pub from : lo ≤ car.cell
  pub to : car.cell < hi
  pub before_exit : car.cell < exit
  pub slow_enough : car.speed ≤ GREATEST_SPEED
  pub short_number : car.number < 2 ^ 32

-- a run can start from a road on these cells: it can hold every car of the road
abbrev pub IsRunnable : ℕ → ℕ → Plan → Array → Type 0
IsRunnable lo hi p a = All (CanRun lo hi (exit_start p)) (cars_of a)

-- a run is on the whole road of its plan, before this step
pub record IsAt (t : ℕ) (run : UnderWay) : Type 0 where
  pub step : run.step ≡ t
  pub lo : run.lo ≡ 0
  pub hi : run.hi ≡ run.plan.cells

-- the input of the next step of a run: the cells of its road, with the cars that enter there
abbrev pub next_input : UnderWay → StepInput
next_input run = input_between run.lo run.hi run.plan run.settings run.step run.road

-- the totals of a detector after the next step
abbrev pub total_after : UnderWay → ℕ → Totals
total_after run d =
    plus (slice_index_or run.totals d no_totals) (passes_at (next_input run) (input_speeds (next_input run)) d)

-- a run after its next step: its cells end 9 cells later, since no car drives farther in a step
abbrev pub run_after_step : UnderWay → UnderWay
run_after_step run = record {
  plan = run.plan;
  settings = run.settings;
  step = run.step + 1;
  lo = run.lo;
  hi = min (run.hi + GREATEST_SPEED) run.plan.cells;
  road = input_next (next_input run);
  totals = map (total_after run) (range_with_len 0 (length run.totals));
}

-- zero totals for each detector of a plan
abbrev pub zero_counts : Plan → List Totals
zero_counts p = map (λ d. no_totals) (range_with_len 0 (length p.detectors))

-- a run of a plan that starts at a step from a road, on the cells from lo to before hi
abbrev pub run_on : Plan → Settings → ℕ → ℕ → ℕ → Array → UnderWay
run_on p s t lo hi a = record {
  plan = p;
  settings = s;
  step = t;
  lo = lo;
  hi = hi;
  road = a;
  totals = zero_counts p;
}

-- a run of a plan that starts at step 0 on the whole road, which is empty
abbrev pub new_run : Plan → Settings → UnderWay
new_run p s = run_on p s 0 0 p.cells []
