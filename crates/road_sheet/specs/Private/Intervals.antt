-- The run of a sheet as intervals of steps: the road at the first step of each, and what each detector counts in it.
use Rattle.std.specs.Prelude.{◌≡◌, ◌<◌, ◌≤◌, ◌+◌, ◌*◌, ◌/◌, ℕ, List, length, slice_get}
use Rattle.std.specs.List.{slice_index_or}
use Rattle.std.specs.declared.option.Option.TheVariants.{Some}
use Rattle.road_plan.specs.Plan.{Plan}
use Rattle.road_plan.specs.declared.limits.TheConstants.{GREATEST_HORIZON}
use Rattle.road_cells.specs.Array.{Array}
use Rattle.road_scenario.specs.Edits.{Edits}
use Rattle.road_detector.specs.Passes.{no_totals}
use Rattle.road_detector.specs.declared.counts.Totals.{Totals}
use Rattle.road_sheet.specs.Sheets.{Sheet, IsSheet}
use Rattle.road_sheet.specs.Shown.{run_at, total_at}
use Rattle.road_sheet.specs.declared.interval.Interval.{Interval}
use Rattle.road_sheet.specs.declared.interval.TheConstants.{INTERVAL_STEPS}

-- what each detector counts in the steps from a up to b
pub record AreTotals (plan : Plan) (edits : Edits) (a b : ℕ) (totals : List Totals) : Type 0 where
  pub each : length totals ≡ length plan.detectors
  pub counted : (d : ℕ) → d < length plan.detectors → slice_index_or totals d no_totals ≡ total_at plan edits d a b

-- an interval of the steps from a up to b: the road at a, and what each detector counts in these steps
pub record IsInterval (plan : Plan) (edits : Edits) (a b : ℕ) (interval : Interval) : Type 0 where
  pub start : interval.start ≡ run_at plan edits a
  pub totals : AreTotals plan edits a b interval.totals.items

-- a sheet's run: the whole intervals, the open one, which ends at the horizon and is not whole yet, and the road at the
-- horizon
pub record IsRunOf (s : Sheet) (intervals : List Interval) (cut : Interval) (road : Array) : Type 0 where
  pub sheet : IsSheet s
  pub begun : INTERVAL_STEPS * length intervals ≤ s.horizon
  pub not_ended : s.horizon < INTERVAL_STEPS * length intervals + INTERVAL_STEPS
  pub each : (k : ℕ) (interval : Interval) → slice_get intervals k ≡ Some interval
      → IsInterval s.plan s.edits (INTERVAL_STEPS * k) (INTERVAL_STEPS * k + INTERVAL_STEPS) interval
  pub open_interval : IsInterval s.plan s.edits (INTERVAL_STEPS * length intervals) s.horizon cut
  pub at_horizon : road ≡ run_at s.plan s.edits s.horizon

-- two sets of edits give the same run and the same counts up to a step
pub record GiveSameRun (plan : Plan) (s t : Edits) (step : ℕ) : Type 0 where
  pub state : (u : ℕ) → u ≤ step → run_at plan s u ≡ run_at plan t u
  pub total : (d a b : ℕ) → b ≤ step → total_at plan s d a b ≡ total_at plan t d a b

-- a step to which a sheet is simulated next: above its horizon, and not past the end of the open interval
pub record IsWithinInterval (s : Sheet) (end : ℕ) : Type 0 where
  pub more : s.horizon < end
  pub not_past : end ≤ INTERVAL_STEPS * (s.horizon / INTERVAL_STEPS) + INTERVAL_STEPS
  pub within_limit : end ≤ GREATEST_HORIZON
