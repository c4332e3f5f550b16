-- The text is that of the refusal.
use Rattle.std.proofs.Common.{rules}
use Rattle.road_format.proofs.refusal.Refusal.text.Goals as goal

pub returns-in-Names : goal.returns-in-Names
returns-in-Names c = search rules
