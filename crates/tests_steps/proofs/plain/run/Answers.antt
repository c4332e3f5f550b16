use Rattle.std.proofs.Common.{◌≡◌, ℕ, suc, ◌+◌, ◌∙◌, ap, arith}
use Rattle.road_plan.specs.Settings.{defaults}
use Rattle.road_ends.specs.Run.{run, road_after_step}
use Rattle.tests_steps.proofs.plain.run.Goals as goal

pub loop-now-preserved : goal.loop-now-preserved
loop-now-preserved c =
    let plan = c.args.plan.now in
    let now = c.loop-now.now in
    let next : suc now ≡ now + 1 = omega arith in
    c.in_ok-road.ensures
    ∙ (λ i. road_after_step plan (c.in_ok-settings.ensures.made i) now (c.loop-now.invariant i))
    ∙ ap (run plan (λ (_ : ℕ). defaults plan)) next
