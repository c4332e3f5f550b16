-- The loop that advances the cars.
use Rattle.std.proofs.Common.{◌≡◌, ◌≤◌, length}
use Rattle.road_cells.specs.Cars.{cars_of}
use Rattle.road_rules.proofs.MotionLoop.{driven}
use Rattle.road_rules.proofs.motion.moved_in_place.Given as goal

-- the cars so far have driven
abbrev pub invariant-loop-place : goal.invariant-loop-place
invariant-loop-place l = record {
  within : l.place ≤ length (cars_of l.fn.road);
  are : l.cars.items ≡ driven l.speeds (cars_of l.fn.road) l.place;
}
