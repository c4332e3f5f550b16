-- A total has at most one car for each step up to the maximum horizon.
use Rattle.std.proofs.Common.{arith}
use Rattle.road_detector.proofs.laws.totals_of_the_longest_run.Goals as goal

pub returns : goal.returns
returns c = λ course d a b early. let is = c.totals_are_bounded.ensures course d a b in let few = is.few in let slow = is.slow in record { few = omega arith; slow = omega arith }
