-- The speeds of a run's cars are digits.
use Rattle.road_ends.specs.Run.{run}
use Rattle.road_detector.proofs.MarkedRow.{have_digits}
use Rattle.road_detector.proofs.laws.cars_have_digits.Goals as goal

pub returns : goal.returns
returns c course t = have_digits (run c.args.plan.now course t) (λ cell car here. (c.cars_stay_on_road.ensures course t cell car here).slow_enough)
