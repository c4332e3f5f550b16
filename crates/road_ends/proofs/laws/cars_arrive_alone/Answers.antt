-- At most one car arrives at a cell.
use Rattle.road_ends.proofs.NoCollision.{arrive_alone}
use Rattle.road_ends.proofs.laws.cars_arrive_alone.Goals as goal

pub returns : goal.returns
returns c = arrive_alone c.args.plan.now
