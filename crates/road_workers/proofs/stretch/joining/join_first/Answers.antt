-- The cars before the end of the first stretch are all of its cars.
use Rattle.std.proofs.Common.{take, ◌∙◌}
use Rattle.road_workers.proofs.StretchCars.{first_cars}
use Rattle.road_workers.proofs.stretch.joining.join_first.Goals as goal

pub returns : goal.returns
returns c span a is = record {
  cars = c.truncate.ensures.items ∙ (λ i. take (c.cars_before-there.ensures i) (c.into_cars-cars.ensures.all i)) ∙ first_cars c.args.ran.road c.args.end ∙ is.cars;
  totals = is.totals;
}
