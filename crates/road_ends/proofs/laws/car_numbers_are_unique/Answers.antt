-- No two cars on the road of a run have the same number.
use Rattle.road_ends.proofs.CarNumbers.{have_unique_numbers}
use Rattle.road_ends.proofs.laws.car_numbers_are_unique.Goals as goal

pub returns : goal.returns
returns c = have_unique_numbers c.args.plan.now c.length.ensures.within
