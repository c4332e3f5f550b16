-- The chance of the zone.
use Rattle.std.proofs.Common.{rules}
use Rattle.road_plan.proofs.object.Object.default.Goals as goal

pub returns-in-Slow : goal.returns-in-Slow
returns-in-Slow c = search rules
