-- Where a run with more edits resumes the run so far.
use Rattle.std.specs.Prelude.{◌≤◌, ◌*◌, ◌/◌, ◌==◌, ℕ, if◌then◌else◌}
use Rattle.std.specs.declared.option.Option.{Option}
use Rattle.std.specs.declared.option.Option.TheVariants.{None, Some}
use Rattle.road_sheet.specs.declared.interval.TheConstants.{INTERVAL_STEPS}

-- a step is not after the touched step, if there is one
abbrev pub IsUpTo : Option ℕ → ℕ → Type 0
IsUpTo None step = Unit {0}
IsUpTo (Some touched) step = step ≤ touched

-- where a draft begins if it may keep the run up to a step: at that step if it is the horizon, and else at the first
-- step of its interval
abbrev pub draft_start : ℕ → ℕ → ℕ
draft_start horizon keep = if keep == horizon then horizon else INTERVAL_STEPS * (keep / INTERVAL_STEPS)
