-- A limit is at most the highest limit, and a chance is at most certainty.
use Rattle.std.proofs.Common.{rules}
use Rattle.road_plan.proofs.object.Object.allows.Goals as goal

pub returns-in-Limit : goal.returns-in-Limit
returns-in-Limit c = search rules

pub returns-in-Slow : goal.returns-in-Slow
returns-in-Slow c = search rules
