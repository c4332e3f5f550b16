-- Rows are written, step by step.
use Rattle.std.proofs.Common.{◌≡◌, map, string_bytes}
use Rattle.road_sheet.specs.Sheets.{rows_of}
use Rattle.road_sheet.specs.ShownRuns.{IsShownBy}
use Rattle.road_sheet.proofs.shown_run.ShownRun.rows_to.Given as goal

-- the run is at the next step, and the rows are those up to it
abbrev pub invariant-loop-step : goal.invariant-loop-step
invariant-loop-step l = record {
  step : l.self.run.step ≡ l.step;
  rows : map string_bytes l.rows.items ≡ rows_of l.sheet l.fn.self.run.step l.step;
  shown : IsShownBy l.sheet l.self;
}
