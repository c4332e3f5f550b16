-- As many cars are on the road as the columns hold.
use Rattle.std.proofs.Common.{sym}
use Rattle.road_columns.proofs.HeldCars.{many_cars}
use Rattle.road_columns.proofs.cars.CarColumns.count.Goals as goal

pub returns : goal.returns
returns c =
    let cars = c.args.self.now in
    sym (many_cars cars.cells.items cars.speeds.items cars.numbers.items cars.head cars.tail c.requires.falling)
