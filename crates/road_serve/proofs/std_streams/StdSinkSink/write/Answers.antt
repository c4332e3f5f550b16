-- A successful write takes at least one byte.
use Rattle.std.proofs.Common.{rules}
use Rattle.road_serve.proofs.std_streams.StdSinkSink.write.Goals as goal

pub returns-in-Ok-clause-some : goal.returns-in-Ok-clause-some
returns-in-Ok-clause-some g c = search rules
