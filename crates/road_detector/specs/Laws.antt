-- Laws of the detectors of every run of a plan.
use Rattle.std.specs.Prelude.{◌≡◌, ℕ, ◌+◌, ◌*◌, ◌-◌, ◌≤◌, slice_index}
use Rattle.road_plan.specs.Plan.{Plan}
use Rattle.road_plan.specs.declared.limits.TheConstants.{GREATEST_HORIZON}
use Rattle.road_cells.specs.declared.car.TheConstants.{GREATEST_SPEED}
use Rattle.road_plan.specs.Settings.{Settings}
use Rattle.road_cells.specs.Array.{Array}
use Rattle.road_cells.specs.Cars.{cars_of}
use Rattle.road_ends.specs.Run.{Course, run}
use Rattle.road_ends.specs.Laws.{AgreeBetween}
use Rattle.road_detector.specs.Passes.{passes, passes_from, total, total_from}
use Rattle.road_detector.specs.declared.counts.Totals.{Totals}
use Rattle.road_detector.specs.Rows.{HaveDigits}

-- at most one car passes a site in one step, and it is not faster than the maximum speed
pub record PassesOneByOne (p : Plan) (course : Course) (d t : ℕ) : Type 0 where
  pub one : (passes p course d t).cars ≤ 1
  pub slow : (passes p course d t).speeds ≤ GREATEST_SPEED

-- cars pass one by one: in every step of every run at most one car passes each site, and it is not faster than the
-- maximum speed
abbrev pub PassOneByOne : Plan → Type 0
PassOneByOne p = (course : Course) (d t : ℕ) → PassesOneByOne p course d t

-- a total over the steps from a to b - 1 of a run has at most one car for each step, and for each of these cars at most
-- the maximum speed
pub record IsTotalBounded (p : Plan) (course : Course) (d a b : ℕ) : Type 0 where
  pub few : (total p course d a b).cars ≤ b - a
  pub slow : (total p course d a b).speeds ≤ GREATEST_SPEED * (b - a)

-- totals are bounded: every total of every run has at most one car for each of its steps, and for each of these cars at
-- most the maximum speed
abbrev pub BoundTotals : Plan → Type 0
BoundTotals p = (course : Course) (d a b : ℕ) → IsTotalBounded p course d a b

-- a total up to the maximum horizon: at most 1,048,576 cars, with speeds that sum to at most 9,437,184
pub record IsTotalOfLongestRun (totals : Totals) : Type 0 where
  pub few : totals.cars ≤ 1048576
  pub slow : totals.speeds ≤ 9437184

-- every total of every run, up to the maximum horizon, keeps this bound
abbrev pub BoundTotalsOfLongestRun : Plan → Type 0
BoundTotalsOfLongestRun p = (course : Course) (d a b : ℕ) → b ≤ GREATEST_HORIZON
    → IsTotalOfLongestRun (total p course d a b)

-- the speed of each car of a run is a digit, so each state has a row
abbrev pub HaveDigitsInRuns : Plan → Type 0
HaveDigitsInRuns p = (course : Course) (t : ℕ) → HaveDigits (cars_of (run p course t))

-- locality in space: on roads that agree on the 9 cells before a detector's site and on 9 cells from the site on, it
-- counts the same in a step, under the same settings
abbrev pub CountCellsNearby : Plan → Type 0
CountCellsNearby p = (s : Settings) (t d : ℕ) (x y : Array)
    → AgreeBetween (slice_index p.detectors d - GREATEST_SPEED) (slice_index p.detectors d + GREATEST_SPEED) x y
    → passes_from p s t x d ≡ passes_from p s t y d

-- locality in space for several steps: on roads that agree, for each step, on 9 cells before the site and on 9 cells
-- from the site on, a detector counts the same in these steps
abbrev pub CountCellsNearbyInSteps : Plan → Type 0
CountCellsNearbyInSteps p = (course : Course) (t k d : ℕ) (x y : Array)
    → AgreeBetween (slice_index p.detectors d - GREATEST_SPEED * k) (slice_index p.detectors d + GREATEST_SPEED * k) x y
    → total_from p course t k x d ≡ total_from p course t k y d
