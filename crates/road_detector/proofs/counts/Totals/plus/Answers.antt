-- The cars are added, and so are the speeds.
use Rattle.std.proofs.Common.{rules}
use Rattle.road_detector.proofs.counts.Totals.plus.Goals as goal

pub returns : goal.returns
returns c = search rules
