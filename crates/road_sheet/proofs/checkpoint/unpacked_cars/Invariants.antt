-- Each stored car becomes a car again.
use Rattle.std.proofs.Common.{◌≡◌, ◌++◌, map, drop}
use Rattle.road_sheet.specs.Private.Checkpoints.{unpacked_car}
use Rattle.road_sheet.proofs.checkpoint.unpacked_cars.Given as goal

-- the cars so far and those that are left are all cars
abbrev pub invariant-loop-car : goal.invariant-loop-car
invariant-loop-car l = l.cars.items ++ map unpacked_car (drop l.car-index l.kept) ≡ map unpacked_car l.kept
