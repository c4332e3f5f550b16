-- The cars may move by their new speeds, and the road after motion and deletion is the next one.
use Rattle.std.proofs.Common.{◌∙◌, sym, subst, ap}
use Rattle.road_rules.specs.Motion.{MayMove, array_after_motion_at}
use Rattle.road_ends.specs.Run.{road_before_exit}
use Rattle.road_ends.proofs.StepByCars.{may_move, left-array_after_motion_at}
use Rattle.road_ends.proofs.step.finish.Goals as goal

pub moved-requires-clause-may : goal.moved-requires-clause-may
moved-requires-clause-may c =
    let input = c.args.input.now in
    subst (λ a. MayMove a c.args.speeds.now) (sym c.road.ensures.road) (subst (MayMove input.road) (sym c.requires) (may_move input.plan input.settings input.step input.road c.road.ensures.on_road))

pub returns-clause-step : goal.returns-clause-step
returns-clause-step c =
    let input = c.args.input.now in
    c.leave.ensures ∙ (λ i. road_before_exit (c.plan.ensures.plan i) ((c.in_ok-moved.ensures.motion ∙ (λ j. array_after_motion_at (c.requires j) (c.road.ensures.road j))) i))
    ∙ left-array_after_motion_at input.plan input.settings input.step input.road

pub returns-clause-parts : goal.returns-clause-parts
returns-clause-parts c =
    c.leave.ensures ∙ (λ i. road_before_exit (c.plan.ensures.plan i) ((c.in_ok-moved.ensures.motion ∙ ap (array_after_motion_at c.args.speeds.now) c.road.ensures.road) i))
