-- One more step is made.
use Rattle.std.proofs.Common.{◌∙◌, ap, sym, arith}
use Rattle.std.proofs.Math.Numerals.{add-one}
use Rattle.road_columns.specs.UnderWay.{UnderWay, run_after_step}
use Rattle.road_workers.specs.Private.RunsUnderWay.{after_steps, uncounted}
use Rattle.road_workers.proofs.whole.make_steps.Goals as goal

pub loop-preserved : goal.loop-preserved
loop-preserved c =
    let was = c.loop.invariant.step in
    let more = ap (λ (run : UnderWay). run.step) c.in_ok-step.ensures.run_after_step in
    record {
      step = omega arith;
      made = c.in_ok-step.ensures.run_after_step ∙ ap run_after_step c.loop.invariant.made ∙ sym (ap (λ n. after_steps n (uncounted c.args.run.now)) (add-one c.loop.counter));
    }
