-- A detector counts, step by step.
use Rattle.std.proofs.Common.{◌≡◌, length}
use Rattle.std.specs.List.{slice_index_or}
use Rattle.road_detector.specs.Passes.{no_totals}
use Rattle.road_sheet.specs.Sheets.{total_of}
use Rattle.road_sheet.specs.ShownRuns.{IsShownBy}
use Rattle.road_sheet.proofs.shown_run.ShownRun.count_to.Given as goal

-- the run is at the next step, and has counted the steps before it
abbrev pub invariant-loop-counted : goal.invariant-loop-counted
invariant-loop-counted l = record {
  step : l.self.run.step ≡ l.counted;
  each : length l.self.run.totals ≡ length l.sheet.plan.detectors;
  counted : slice_index_or l.self.run.totals l.detector no_totals ≡ total_of l.sheet l.detector l.fn.self.run.step l.counted;
  shown : IsShownBy l.sheet l.self;
}
