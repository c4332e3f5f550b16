-- Cars keep their order in each step.
use Rattle.road_ends.proofs.NoCollision.{keep_order}
use Rattle.road_ends.proofs.laws.cars_keep_order.Goals as goal

pub returns : goal.returns
returns c = keep_order c.args.plan.now
