-- One entry for each zone of the road.
use Rattle.std.proofs.Common.{rules}
use Rattle.road_plan.proofs.checks.has_zones.Goals as goal

pub returns-then-len-le-MOST_ZONES : goal.returns-then-len-le-MOST_ZONES
returns-then-len-le-MOST_ZONES c = search rules
