-- The stored list is the list of the array's cars.
use Rattle.std.proofs.Common.{◌∙◌, ap, sym}
use Rattle.road_cells.specs.Cars.{cars_of}
use Rattle.road_cells.proofs.CarLists.{cars_of-array_of}
use Rattle.road_cells.proofs.road.Road.cars.Goals as goal

pub returns-clause-all : goal.returns-clause-all
returns-clause-all c = c.as_slice.ensures.value ∙ sym (cars_of-array_of c.self.inside.cars.items c.self.invariant) ∙ ap cars_of c.self.view_is
