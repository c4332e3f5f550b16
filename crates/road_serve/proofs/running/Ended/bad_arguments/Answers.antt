-- The status and the line of refused arguments.
use Rattle.std.proofs.Common.{refl}
use Rattle.road_serve.proofs.running.Ended.bad_arguments.Goals as goal

pub returns : goal.returns
returns c = (refl, refl)
