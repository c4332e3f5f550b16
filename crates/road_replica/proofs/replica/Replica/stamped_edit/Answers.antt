-- The edit's count is one more than the greatest that the replica holds.
use Rattle.std.proofs.Common.{rules}
use Rattle.road_replica.proofs.replica.Replica.stamped_edit.Goals as goal

pub returns : goal.returns
returns c = search rules
