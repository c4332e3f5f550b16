-- The run that queries of a sheet keep under way.
use Rattle.std.specs.Prelude.{◌≡◌}
use Rattle.road_scenario.specs.Settings.{settings_of}
use Rattle.road_sheet.specs.SettingsCaches.{AreCached}
use Rattle.road_sheet.specs.Sheets.{Sheet, state_of}
use Rattle.road_sheet.specs.declared.shown_run.ShownRun.{ShownRun}

-- a run under way is of a sheet: it has the sheet's plan, runs the whole road, and has the road of its step and the
-- settings of the step `under`; and the cached settings are the sheet's
pub record IsShownBy (sheet : Sheet) (shown : ShownRun) : Type 0 where
  pub plan : shown.run.plan ≡ sheet.plan
  pub begin : shown.run.lo ≡ 0
  pub end : shown.run.hi ≡ sheet.plan.cells
  pub road : shown.run.road ≡ state_of sheet shown.run.step
  pub under : shown.run.settings ≡ settings_of sheet.plan sheet.edits shown.under
  pub cached : AreCached sheet.plan sheet.edits shown.settings
