-- Each car of a run is on the road.
use Rattle.road_ends.proofs.CarNumbers.{stay_on_road}
use Rattle.road_ends.proofs.laws.cars_stay_on_road.Goals as goal

pub returns : goal.returns
returns c = stay_on_road c.args.plan.now c.length.ensures.within
