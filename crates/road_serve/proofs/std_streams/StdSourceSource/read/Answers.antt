-- A read that gives no byte is at the end of the input.
use Rattle.std.proofs.Common.{rules}
use Rattle.road_serve.proofs.std_streams.StdSourceSource.read.Goals as goal

pub returns-in-Ok-clause-ended : goal.returns-in-Ok-clause-ended
returns-in-Ok-clause-ended g c = search rules
