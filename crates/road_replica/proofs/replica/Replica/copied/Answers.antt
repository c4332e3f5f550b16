-- The same number, and the sheet is shared.
use Rattle.std.proofs.Common.{rules}
use Rattle.road_replica.proofs.replica.Replica.copied.Goals as goal

pub returns : goal.returns
returns c = search rules
