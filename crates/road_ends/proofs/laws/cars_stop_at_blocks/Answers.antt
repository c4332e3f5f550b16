-- No car drives onto a blocked cell or past it.
use Rattle.road_ends.proofs.NoCollision.{stop_at_blocks}
use Rattle.road_ends.proofs.laws.cars_stop_at_blocks.Goals as goal

pub returns : goal.returns
returns c = stop_at_blocks c.args.plan.now
