-- The loop from the last car back.
use Rattle.std.proofs.Common.{◌≡◌, ◌-◌, ◌≤◌, ◌++◌}
use Rattle.road_columns.specs.Private.CarsAt.{from_place}
use Rattle.road_columns.specs.Private.Held.{cars_held}
use Rattle.road_columns.proofs.cars.CarColumns.road.Given as goal

-- the cars so far and those that are left are all
abbrev pub invariant-loop-place : goal.invariant-loop-place
invariant-loop-place l = record {
  from : l.self.head ≤ l.place;
  to : l.place ≤ l.self.tail;
  all : l.cars.items ++ cars_held (from_place l.self.cells.items l.self.head) (from_place l.self.speeds.items l.self.head) (from_place l.self.numbers.items l.self.head) (l.place - l.self.head)
      ≡ cars_held (from_place l.self.cells.items l.self.head) (from_place l.self.speeds.items l.self.head) (from_place l.self.numbers.items l.self.head) (l.self.tail - l.self.head);
}

abbrev pub decreases-loop-place : goal.decreases-loop-place
decreases-loop-place l = l.place
