-- A failed allocation is `OutOfMemory`.
use Rattle.std.proofs.Common.{rules}
use Rattle.road_workers.proofs.faults.CrewFaultFromAllocError.from.Goals as goal

pub returns : goal.returns
returns c = search rules
