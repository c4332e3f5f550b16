-- The settings of the input fit its plan, and its cars are on the road.
use Rattle.std.proofs.Common.{◌≤◌, ◌∙◌, sym, subst, length}
use Rattle.road_plan.specs.Plan.{Plan, IsWithinLimits}
use Rattle.road_plan.specs.Settings.{Fits}
use Rattle.road_ends.proofs.input.enter.Goals as goal

pub invariant_of-input : goal.invariant_of-input
invariant_of-input c = (
  subst IsWithinLimits (c.deref.ensures ∙ sym c.in_ok-plan.ensures) c.in_ok-road.ensures.within,
  subst (λ (p : Plan). Fits p c.args.settings) (sym c.in_ok-plan.ensures) c.requires.fits,
  subst (λ (p : Plan). length c.in_ok-road.road ≤ p.cells) (c.deref.ensures ∙ sym c.in_ok-plan.ensures) c.in_ok-road.ensures.on_road,
)
