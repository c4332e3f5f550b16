-- No car.
use Rattle.std.proofs.Common.{rules}
use Rattle.road_cells.proofs.road.Road.empty.Goals as goal

pub returns : goal.returns
returns c = search rules
