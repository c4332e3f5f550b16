-- Lists of cars that are the same at each place are the same.
use Rattle.std.proofs.Common.{refl, arith}
use Rattle.std.proofs.lemmas.List.{ext_get_or}
use Rattle.road_cells.specs.declared.car.Car.{Car}
use Rattle.road_ends.proofs.input.sameness.are_same_cars.Goals as goal

no_car : Car
no_car = record { number = 0; cell = 0; speed = 0 }

pub returns : goal.returns
returns c = let same = c.loop-place.invariant in
    (λ _. ext_get_or no_car _ _ same.long (λ k before. same.so_far k no_car (omega arith)), λ _. refl)
