-- A stretch depends only on the cells nearby.
use Rattle.road_ends.proofs.CellsNearby.{depend_on_cells_nearby}
use Rattle.road_ends.proofs.laws.roads_depend_on_cells_nearby.Goals as goal

pub returns : goal.returns
returns c = depend_on_cells_nearby c.args.plan.now
