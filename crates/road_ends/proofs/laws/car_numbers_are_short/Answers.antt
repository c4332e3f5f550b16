-- A car is numbered in a step before the maximum horizon.
use Rattle.std.proofs.Common.{arith}
use Rattle.road_ends.proofs.laws.car_numbers_are_short.Goals as goal

pub returns : goal.returns
returns c = λ course t cell car early here. let entered = (c.cars_stay_on_road.ensures course t cell car here).has_entered in omega arith
