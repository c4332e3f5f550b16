-- The cars of the array that cars make are these cars.
use Rattle.road_cells.proofs.CarLists.{cars_of-array_of}
use Rattle.road_cells.proofs.road.Road.of.Goals as goal

pub returns-clause-cars : goal.returns-clause-cars
returns-clause-cars c = cars_of-array_of c.args.cars.items c.requires
