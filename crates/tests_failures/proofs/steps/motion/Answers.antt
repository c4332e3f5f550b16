-- The cars may move by the speeds of their input.
use Rattle.std.proofs.Common.{◌∙◌, sym, subst}
use Rattle.road_rules.specs.Motion.{MayMove}
use Rattle.road_ends.proofs.StepByCars.{may_move}
use Rattle.tests_failures.proofs.steps.motion.Goals as goal

pub moved-requires-clause-may : goal.moved-requires-clause-may
moved-requires-clause-may c =
    let input = c.args.input.now in
    subst (λ a. MayMove a c.deref.result.now) (sym c.road.ensures.road) (subst (MayMove input.road) (sym (c.deref.ensures.value ∙ c.in_ok-speeds.ensures)) (may_move input.plan input.settings input.step input.road c.road.ensures.on_road))
