-- The car is further on by its speed.
use Rattle.std.proofs.Common.{rules}
use Rattle.road_rules.proofs.motion.advance.Goals as goal

pub returns : goal.returns
returns c = search rules
