-- The plan's number of deleted cells.
use Rattle.std.proofs.Common.{rules}
use Rattle.road_plan.proofs.plan.Plan.exit.Goals as goal

pub returns : goal.returns
returns c = search rules
