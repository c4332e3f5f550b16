-- The loop over the cars.
use Rattle.std.proofs.Common.{◌≡◌, ◌+◌, ◌<◌, ℕ, length, slice_index}
use Rattle.road_cells.specs.Cars.{cell_at}
use Rattle.road_ends.specs.Speed.{nth_car}
use Rattle.road_columns.specs.Columns.{mirrored}
use Rattle.road_columns.proofs.cars.CarColumns.hold.Given as goal

-- the cars so far are there
abbrev pub invariant-loop-place : goal.invariant-loop-place
invariant-loop-place l = record {
  cells_each : length l.self.cells.items ≡ length l.fn.self.cells.items;
  speeds_each : length l.self.speeds.items ≡ length l.fn.self.speeds.items;
  numbers_each : length l.self.numbers.items ≡ length l.fn.self.numbers.items;
  cells : (i : ℕ) → i < l.place → slice_index l.self.cells.items (8 + i) ≡ cell_at l.cars (mirrored (length l.cars) i);
  speeds : (i : ℕ) → i < l.place → slice_index l.self.speeds.items (8 + i) ≡ (nth_car l.cars (mirrored (length l.cars) i)).speed;
  numbers : (i : ℕ) → i < l.place → slice_index l.self.numbers.items (8 + i) ≡ (nth_car l.cars (mirrored (length l.cars) i)).number;
}
