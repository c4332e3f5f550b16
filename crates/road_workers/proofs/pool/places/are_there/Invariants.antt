-- The loop that looks at one place after another.
use Rattle.std.proofs.Common.{ℕ, ◌<◌, IsSome}
use Rattle.std.specs.List.{slice_index_or}
use Rattle.road_workers.proofs.pool.places.are_there.Given as goal

abbrev pub invariant-loop-worker : goal.invariant-loop-worker
invariant-loop-worker g l = (w : ℕ) (d : _) → w < l.worker → IsSome (slice_index_or l.places w d)
