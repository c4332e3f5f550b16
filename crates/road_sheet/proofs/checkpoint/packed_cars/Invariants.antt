-- Each car of a road is kept in 6 bytes.
use Rattle.std.proofs.Common.{◌≡◌, ◌++◌, map, drop}
use Rattle.road_sheet.specs.Private.Checkpoints.{unpacked_car}
use Rattle.road_sheet.proofs.checkpoint.packed_cars.Given as goal

-- what is stored and the cars that are left are all cars
abbrev pub invariant-loop-car : goal.invariant-loop-car
invariant-loop-car l = map unpacked_car l.kept.items ++ drop l.car-index l.cars ≡ l.cars
