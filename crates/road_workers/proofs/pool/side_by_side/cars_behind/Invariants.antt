-- The loop that counts the cars: no more than are on the stretches so far.
use Rattle.std.proofs.Common.{◌≤◌, ◌+◌, length}
use Rattle.road_cells.specs.Cars.{cars_of}
use Rattle.road_workers.specs.Private.Gathered.{cars_on_first}
use Rattle.road_workers.specs.Private.Stretches.{cut}
use Rattle.road_workers.proofs.pool.side_by_side.cars_behind.Given as goal

abbrev pub invariant-loop-worker : goal.invariant-loop-worker
invariant-loop-worker l = l.cars ≤ cars_on_first l.worker
    (cut l.shares.span.now.plan.cells (cars_of l.shares.road.now) (l.shares.own + length l.places)) l.shares.own l.places
