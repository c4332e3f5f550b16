-- The stored count.
use Rattle.std.proofs.Common.{rules}
use Rattle.road_ends.proofs.meter.Meter.ticks.Goals as goal

pub returns : goal.returns
returns c = search rules
