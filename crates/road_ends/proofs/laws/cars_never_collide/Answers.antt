-- A car stays behind the cell of the next one.
use Rattle.road_ends.proofs.NoCollision.{never_collide}
use Rattle.road_ends.proofs.laws.cars_never_collide.Goals as goal

pub returns : goal.returns
returns c = never_collide c.args.plan.now
