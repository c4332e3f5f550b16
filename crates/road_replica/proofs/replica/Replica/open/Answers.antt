-- The opening sheet, under the number.
use Rattle.std.proofs.Common.{rules}
use Rattle.road_replica.proofs.replica.Replica.open.Goals as goal

pub returns : goal.returns
returns c = search rules
