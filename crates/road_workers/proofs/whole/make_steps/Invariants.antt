-- The steps of a span, one after another.
use Rattle.std.proofs.Common.{◌≡◌, ◌+◌}
use Rattle.road_workers.specs.Private.RunsUnderWay.{after_steps, uncounted}
use Rattle.road_workers.proofs.whole.make_steps.Given as goal

abbrev pub invariant-loop : goal.invariant-loop
invariant-loop l = record {
  step : l.run.step ≡ l.span.step + l.counter;
  made : l.run ≡ after_steps l.counter (uncounted l.fn.run);
}
