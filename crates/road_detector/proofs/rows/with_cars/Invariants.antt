-- The loop that marks cars.
use Rattle.std.proofs.Common.{◌≡◌, ℕ, ◌<◌, length, drop}
use Rattle.std.specs.Prelude.{slice_index}
use Rattle.road_cells.specs.Cars.{vehicle_among}
use Rattle.road_detector.specs.Rows.{car_letter}
use Rattle.road_detector.proofs.rows.with_cars.Given as goal

abbrev pub invariant-loop-car : goal.invariant-loop-car
invariant-loop-car l = record {
  same_length : length l.row.items ≡ length l.initial.row.items;
  marked : (c : ℕ) → c < length l.initial.row.items → car_letter (vehicle_among c (drop l.car-index l.cars)) (slice_index l.row.items c) ≡ car_letter (vehicle_among c l.cars) (slice_index l.initial.row.items c);
}
