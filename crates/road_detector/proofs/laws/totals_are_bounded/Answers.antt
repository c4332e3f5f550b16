-- A total has at most one car for each step.
use Rattle.std.proofs.Common.{◌-◌}
use Rattle.road_detector.proofs.CarsPassOneByOne.{bounded}
use Rattle.road_detector.proofs.laws.totals_are_bounded.Goals as goal

pub returns : goal.returns
returns c course d a b = let is = bounded c.args.plan.now c.cars_never_collide.ensures c.cars_keep_below_greatest_speed.ensures course d (b - a) a in record { few = is.0; slow = is.1 }
