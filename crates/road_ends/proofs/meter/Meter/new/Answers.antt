-- A new meter is at 0.
use Rattle.std.proofs.Common.{rules}
use Rattle.road_ends.proofs.meter.Meter.new.Goals as goal

pub returns : goal.returns
returns c = search rules
