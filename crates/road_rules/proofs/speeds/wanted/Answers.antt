-- The least of the three.
use Rattle.std.proofs.Common.{rules}
use Rattle.road_rules.proofs.speeds.wanted.Goals as goal

pub returns : goal.returns
returns c = search rules
