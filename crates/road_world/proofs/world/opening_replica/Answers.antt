-- The opening replica of its number.
use Rattle.std.proofs.Common.{rules}
use Rattle.road_world.proofs.world.opening_replica.Goals as goal

pub returns : goal.returns
returns c = search rules
