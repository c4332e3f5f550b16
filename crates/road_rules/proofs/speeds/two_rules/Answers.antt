-- A driver brakes to one cell less than the distance.
use Rattle.std.proofs.Common.{rules}
use Rattle.road_rules.proofs.speeds.two_rules.Goals as goal

pub returns-then-distance-from-2-clause-rules : goal.returns-then-distance-from-2-clause-rules
returns-then-distance-from-2-clause-rules c = search rules

pub returns-then-distance-from-2-clause-law : goal.returns-then-distance-from-2-clause-law
returns-then-distance-from-2-clause-law c = search rules
