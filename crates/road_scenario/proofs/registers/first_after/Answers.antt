-- The registers after a step begin with the first one.
use Rattle.std.proofs.Common.{ap, sym, ◌∙◌}
use Rattle.road_scenario.proofs.StepRanges.{first_step, first_step-after}
use Rattle.road_scenario.proofs.registers.first_after.Goals as goal

pub returns-in-Some : goal.returns-in-Some
returns-in-Some c = sym (ap first_step c.in-Some.ensures.steps) ∙ ap first_step c.after.ensures ∙ first_step-after c.args.step c.args.registers.now

pub returns-in-None : goal.returns-in-None
returns-in-None c = sym (ap first_step c.in-None.ensures.steps.0) ∙ ap first_step c.after.ensures ∙ first_step-after c.args.step c.args.registers.now
