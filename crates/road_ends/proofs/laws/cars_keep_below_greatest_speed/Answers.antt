-- No car is faster than the maximum speed.
use Rattle.road_ends.proofs.NoCollision.{keep_below_greatest_speed}
use Rattle.road_ends.proofs.laws.cars_keep_below_greatest_speed.Goals as goal

pub returns : goal.returns
returns c = keep_below_greatest_speed c.args.plan.now
