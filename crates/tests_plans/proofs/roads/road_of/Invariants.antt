-- The loop that appends the cars one after the other.
use Rattle.std.proofs.Common.{◌≤◌}
use Rattle.road_cells.specs.Cars.{AreRising, end_of}
use Rattle.tests_plans.proofs.roads.road_of.Given as goal

abbrev pub invariant-loop-car : goal.invariant-loop-car
invariant-loop-car l = record {
  rise : AreRising l.rising.items;
  behind : end_of l.rising.items ≤ l.end;
}
