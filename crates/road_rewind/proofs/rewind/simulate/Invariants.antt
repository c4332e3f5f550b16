-- A draft is simulated, span by span.
use Rattle.std.proofs.Common.{◌≡◌, ◌≤◌, ◌-◌}
use Rattle.road_columns.specs.RoadOrRun.{road_now}
use Rattle.road_sheet.specs.Sheets.{state_of}
use Rattle.road_rewind.specs.Growth.{meter_after}
use Rattle.road_rewind.proofs.rewind.simulate.Given as goal

-- the draft is at the next step, and each step before it is counted
abbrev pub invariant-loop-step : goal.invariant-loop-step
invariant-loop-step g l = record {
  after : l.fn.draft.horizon ≤ l.step;
  before : l.step ≤ l.to;
  draft : l.so_far ≡ record l.fn.draft { horizon = l.step };
  road : road_now l.road ≡ state_of l.so_far l.so_far.horizon;
  meter : l.meter ≡ meter_after l.fn.meter (l.step - l.fn.draft.horizon);
  gone : g.C.Crew.times_gone l.crew ≡ g.C.Crew.times_gone l.fn.crew;
}

abbrev pub decreases-loop-step : goal.decreases-loop-step
decreases-loop-step g l = l.to - l.step
