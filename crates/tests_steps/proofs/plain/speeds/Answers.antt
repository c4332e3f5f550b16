use Rattle.std.proofs.Common.{◌<◌, subst, length}
use Rattle.tests_steps.proofs.SpeedByCar.{one_speed_more}
use Rattle.tests_steps.proofs.plain.speeds.Goals as goal

pub loop-place-preserved : goal.loop-place-preserved
loop-place-preserved c =
    one_speed_more c.args.plan.now c.args.settings.now c.args.step c.args.road.now c.loop-place.new.items c.push.new.self.items c.loop-place.place c.speed.result
    (subst (λ cars. c.loop-place.place < length cars) c.cars-place-end.ensures.all c.loop-place-test.true)
    c.loop-place.invariant c.speed.ensures c.in_ok-push.ensures.items
