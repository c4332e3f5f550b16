-- Sheets: a set of edits, and how far its run is simulated.
use Rattle.std.specs.Prelude.{◌≡◌, ◌≤◌, ◌+◌, ◌-◌, ◌%◌, ◌⊎◌, ◌||◌, Bool, ℕ, suc, not, nat_lt, List, length}
use Rattle.std.specs.Prelude.{if◌then◌else◌}
use Rattle.std.specs.declared.option.Option.{Option}
use Rattle.std.specs.declared.option.Option.TheVariants.{None, Some}
use Rattle.lattice_core.specs.declared.greatest.Greatest.{Greatest}
use Rattle.lattice_core.specs.declared.greatest.Greatest.TheVariants.{Nothing, Of}
use Rattle.lattice_core.specs.Sets.{empty}
use Rattle.road_plan.specs.Plan.{Plan, IsWithinLimits}
use Rattle.road_plan.specs.declared.limits.TheConstants.{GREATEST_HORIZON, MOST_ROWS}
use Rattle.road_cells.specs.Array.{Array}
use Rattle.road_ends.specs.Input.{StepInput, input_of}
use Rattle.road_scenario.specs.Edits.{Edits}
use Rattle.road_scenario.specs.Faults.{AreInRange}
use Rattle.road_scenario.specs.Settings.{settings_of}
use Rattle.road_scenario.specs.Winners.{AreWinners, join}
use Rattle.road_detector.specs.declared.counts.Totals.{Totals}
use Rattle.road_sheet.specs.Shown.{run_at, row_at, rows_at, total_at}
use Rattle.road_sheet.specs.declared.faults.SheetFault.{SheetFault}
use Rattle.road_sheet.specs.declared.faults.SheetFault.TheVariants.{NoDetector, Range, NotSimulated, OutOfMemory}
use Rattle.road_sheet.specs.declared.interval.TheConstants.{INTERVAL_STEPS}

-- a plan, edits, and the horizon, which is the number of simulated steps: the road is known at each step from 0 to it
pub record Sheet : Type 0 where
  pub plan : Plan
  pub edits : Edits
  pub horizon : ℕ

-- what every sheet meets: no edit exceeds another, all are in the plan and its ranges, and plan and horizon are within
-- the limits
pub record IsSheet (s : Sheet) : Type 0 where
  pub plan_within : IsWithinLimits s.plan
  pub winners : AreWinners s.edits
  pub in_range : AreInRange s.plan s.edits
  pub within_limit : s.horizon ≤ GREATEST_HORIZON

-- the opening sheet: no edits, and no simulated step
abbrev pub opening_sheet : Plan → Sheet
opening_sheet plan = record { plan = plan; edits = empty; horizon = 0 }

-- the horizon: the latest step, or 0 if there is no step
abbrev pub horizon_of : Greatest ℕ → ℕ
horizon_of Nothing = 0
horizon_of (Of step) = step

-- the road that a sheet shows at a step
abbrev pub state_of : Sheet → ℕ → Array
state_of s step = run_at s.plan s.edits step

-- the row that a sheet shows at a step
abbrev pub sheet_row : Sheet → ℕ → List ℕ
sheet_row s step = row_at s.plan s.edits step

-- the rows that a sheet shows from one step to another, both included
abbrev pub rows_of : Sheet → ℕ → ℕ → List (List ℕ)
rows_of s from to = rows_at s.plan s.edits from to

-- what a detector counts in the steps from one to before another, as a sheet shows it
abbrev pub total_of : Sheet → ℕ → ℕ → ℕ → Totals
total_of s detector from to = total_at s.plan s.edits detector from to

-- a sheet is at most another of its plan: the other has its edits joined in, and is simulated at least as far
pub record IsAtMost (s t : Sheet) : Type 0 where
  pub plan : s.plan ≡ t.plan
  pub edits : join s.edits t.edits ≡ t.edits
  pub horizon : s.horizon ≤ t.horizon

-- the named cause for which a state is refused
abbrev pub state_fault : Sheet → ℕ → Option SheetFault
state_fault s step = if nat_lt s.horizon step then Some NotSimulated else None

-- the first named cause for which totals are refused
abbrev pub totals_fault : Sheet → ℕ → ℕ → ℕ → Option SheetFault
totals_fault s detector from to =
    if not (nat_lt detector (length s.plan.detectors)) then Some NoDetector
    else (if nat_lt to from then Some Range
    else (if nat_lt s.horizon to then Some NotSimulated else None))

-- whether there is no row from one step to another, or more rows than a diagram may have
abbrev pub is_out_of_range : ℕ → ℕ → Bool
is_out_of_range from to = nat_lt to from || nat_lt MOST_ROWS (suc to - from)

-- the first named cause for which rows are refused
abbrev pub rows_fault : Sheet → ℕ → ℕ → Option SheetFault
rows_fault s from to = if is_out_of_range from to then Some Range
    else (if nat_lt s.horizon to then Some NotSimulated else None)

-- the steps from one to before another are whole intervals: the first is a checkpoint, and the second is a checkpoint
-- or the horizon
pub record AreWholeIntervals (s : Sheet) (from to : ℕ) : Type 0 where
  pub begin : from % INTERVAL_STEPS ≡ 0
  pub end : (to % INTERVAL_STEPS ≡ 0) ⊎ (to ≡ s.horizon)

-- a refusal is the named cause if there is one, and else `OutOfMemory`
abbrev pub IsRefusalBy : Option SheetFault → SheetFault → Type 0
IsRefusalBy (Some cause) fault = fault ≡ cause
IsRefusalBy None fault = fault ≡ OutOfMemory

-- the input of the first step that is not simulated yet, which is made from the road at the horizon
abbrev pub next_input : Sheet → StepInput
next_input s = input_of s.plan (settings_of s.plan s.edits s.horizon) s.horizon (state_of s s.horizon)

-- the sheet after one more simulated step
abbrev pub sheet_after_step : Sheet → Sheet
sheet_after_step s = record s { horizon = s.horizon + 1 }
