-- Cars in few bytes.
use Rattle.std.specs.Prelude.{◌+◌, ◌*◌, ◌<◌, ◌^◌, List}
use Rattle.std.specs.List.{All}
use Rattle.road_cells.specs.declared.car.Car.{Car}
use Rattle.road_sheet.specs.declared.checkpoint.PackedCar.{PackedCar}

-- the car that is stored
abbrev pub unpacked_car : PackedCar → Car
unpacked_car kept = record { number = kept.low + 65536 * kept.high; cell = kept.cell; speed = kept.speed }

-- a car whose number and cell fit
pub record IsSmall (car : Car) : Type 0 where
  pub number : car.number < 2 ^ 24
  pub cell : car.cell < 2 ^ 16

-- cars that all fit
abbrev pub AreSmall : List Car → Type 0
AreSmall cars = All IsSmall cars
