-- The loop that compares cars.
use Rattle.std.proofs.Common.{◌≡◌, ◌<◌, ℕ, length, get_or}
use Rattle.road_cells.specs.declared.car.Car.{Car}
use Rattle.road_ends.proofs.input.sameness.are_same_cars.Given as goal

-- the cars so far are the same
abbrev pub invariant-loop-place : goal.invariant-loop-place
invariant-loop-place l = record {
  long : length l.cars ≡ length l.other;
  so_far : (k : ℕ) (d : Car) → k < l.place → get_or l.cars k d ≡ get_or l.other k d;
}
