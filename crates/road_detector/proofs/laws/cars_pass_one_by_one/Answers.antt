-- At most one car passes a site in one step.
use Rattle.road_detector.proofs.CarsPassOneByOne.{one_by_one}
use Rattle.road_detector.proofs.laws.cars_pass_one_by_one.Goals as goal

pub returns : goal.returns
returns c course d t = one_by_one c.args.plan.now c.cars_never_collide.ensures c.cars_keep_below_greatest_speed.ensures course d t
