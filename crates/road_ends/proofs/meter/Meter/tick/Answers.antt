-- One more, up to the largest count.
use Rattle.std.proofs.Common.{rules}
use Rattle.road_ends.proofs.meter.Meter.tick.Goals as goal

pub returns : goal.returns
returns c = search rules
