-- The status and the line if memory ran out.
use Rattle.std.proofs.Common.{refl}
use Rattle.road_serve.proofs.running.Ended.no_memory.Goals as goal

pub returns : goal.returns
returns c = (refl, refl)
