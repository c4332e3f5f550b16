-- Several steps that are added to a sheet at once.
use Rattle.std.specs.Prelude.{◌≡◌, ◌≤◌, ◌<◌, ◌+◌, ◌*◌, ◌/◌, ℕ}
use Rattle.road_ends.specs.Span.{Span}
use Rattle.road_scenario.specs.Settings.{settings_of}
use Rattle.road_sheet.specs.Sheets.{Sheet}
use Rattle.road_sheet.specs.declared.interval.TheConstants.{INTERVAL_STEPS}

-- a span of a sheet's next steps: at least one, all in one interval, and the span's settings are those of each of them
pub record IsNextSpan (s : Sheet) (span : Span) : Type 0 where
  pub plan : span.plan ≡ s.plan
  pub step : span.step ≡ s.horizon
  pub some : 0 < span.steps
  pub within_interval : s.horizon + span.steps ≤ INTERVAL_STEPS * (s.horizon / INTERVAL_STEPS) + INTERVAL_STEPS
  pub settings : (t : ℕ) → s.horizon ≤ t → t < s.horizon + span.steps → settings_of s.plan s.edits t ≡ span.settings

-- the sheet after the steps of a span
abbrev pub sheet_after_span : Span → Sheet → Sheet
sheet_after_span span s = record s { horizon = s.horizon + span.steps }
