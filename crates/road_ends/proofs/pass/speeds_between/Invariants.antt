-- The pass from car to car, from the far end on.
use Rattle.std.proofs.Common.{◌≡◌, ℕ, ◌<◌, ◌≤◌, ◌-◌, length}
use Rattle.std.specs.Prelude.{slice_index}
use Rattle.road_cells.specs.Cars.{cars_of, cell_at}
use Rattle.road_ends.specs.Speed.{speeds}
use Rattle.road_ends.proofs.pass.speeds_between.Given as goal

-- the cars that were visited have their speeds, and the blocked cells that are not counted are in front of all cars
-- that are left
abbrev pub invariant-loop-place : goal.invariant-loop-place
invariant-loop-place l = record {
  one_each : length l.new.items ≡ l.end - l.first;
  done : (k : ℕ) → l.place ≤ k → k < l.end → slice_index l.new.items (k - l.first) ≡ slice_index (speeds l.at.plan.now l.at.settings.now l.at.step l.road) k;
  bound : l.reached ≤ length l.at.settings.now.blocks;
  ahead : (i : ℕ) → l.reached ≤ i → i < length l.at.settings.now.blocks → (k : ℕ) → k < l.place → cell_at (cars_of l.road) k < slice_index l.at.settings.now.blocks i;
}
