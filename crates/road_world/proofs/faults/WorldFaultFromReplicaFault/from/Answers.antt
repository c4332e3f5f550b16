-- The fault of the replica.
use Rattle.std.proofs.Common.{rules}
use Rattle.road_world.proofs.faults.WorldFaultFromReplicaFault.from.Goals as goal

pub returns : goal.returns
returns c = search rules
