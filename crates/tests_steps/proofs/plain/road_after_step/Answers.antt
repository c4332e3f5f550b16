use Rattle.std.proofs.Common.{◌∙◌, sym, ap, subst, arith}
use Rattle.road_rules.specs.Motion.{MayMove, array_after_motion_at}
use Rattle.road_ends.specs.Run.{road_after_motion, road_before_exit}
use Rattle.road_ends.proofs.StepByCars.{may_move, left-array_after_motion_at}
use Rattle.tests_steps.proofs.plain.road_after_step.Goals as goal

pub moved-requires-clause-low : goal.moved-requires-clause-low
moved-requires-clause-low c =
    let on_road = c.in_ok-moving.ensures.on_road in
    let short = c.in_ok-moving.ensures.within.short_enough in
    omega arith

pub moved-requires-clause-may : goal.moved-requires-clause-may
moved-requires-clause-may c =
    subst (MayMove c.in_ok-moving.moving) (sym (c.deref.ensures.value ∙ c.in_ok-speeds.ensures)) (may_move c.args.plan.now c.args.settings.now c.args.step c.in_ok-moving.moving c.in_ok-moving.ensures.on_road)

pub returns : goal.returns
returns c =
    let moving = c.in_ok-moving.moving in
    c.leave.ensures ∙ ap (road_before_exit c.args.plan.now) (c.in_ok-moved.ensures.motion ∙ ap (λ speeds. array_after_motion_at speeds moving) (c.deref.ensures.value ∙ c.in_ok-speeds.ensures))
    ∙ left-array_after_motion_at c.args.plan.now c.args.settings.now c.args.step moving
    ∙ ap (road_after_motion c.args.plan.now c.args.settings.now c.args.step) c.in_ok-moving.ensures.moving
