-- The counts of a detector depend only on the cells nearby.
use Rattle.road_detector.proofs.CountsNearby.{count_cells_nearby}
use Rattle.road_detector.proofs.laws.counts_depend_on_cells_nearby.Goals as goal

pub returns : goal.returns
returns c = count_cells_nearby c.args.plan.now
