-- The run continues, step by step.
use Rattle.std.proofs.Common.{◌≡◌}
use Rattle.road_sheet.specs.ShownRuns.{IsShownBy}
use Rattle.road_sheet.proofs.shown_run.ShownRun.go_to.Given as goal

-- it is at the next step
abbrev pub invariant-loop-now : goal.invariant-loop-now
invariant-loop-now l = record {
  step : l.self.run.step ≡ l.now;
  shown : IsShownBy l.sheet l.self;
}
