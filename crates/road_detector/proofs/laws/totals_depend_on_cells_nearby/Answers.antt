-- The counts of a detector in several steps depend only on the cells nearby.
use Rattle.road_detector.proofs.TotalsFrom.{total-nearby}
use Rattle.road_detector.proofs.laws.totals_depend_on_cells_nearby.Goals as goal

pub returns : goal.returns
returns c = λ course t k d x y agree. total-nearby c.args.plan.now course t k x y d agree
