-- The cell is a cell of the road.
use Rattle.std.proofs.Common.{rules}
use Rattle.road_plan.proofs.object.Object.in_plan.Goals as goal

pub returns-in-Block : goal.returns-in-Block
returns-in-Block c = search rules
