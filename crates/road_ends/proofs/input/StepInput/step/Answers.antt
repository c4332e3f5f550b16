-- The step of the input.
use Rattle.std.proofs.Common.{rules}
use Rattle.road_ends.proofs.input.StepInput.step.Goals as goal

pub returns : goal.returns
returns c = search rules
