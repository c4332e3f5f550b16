-- The loop that starts the workers of a pool: so far they are numbered.
use Rattle.std.proofs.Common.{◌≡◌, ◌<◌, ℕ, slice_index_or, vec_len}
use Rattle.road_workers.specs.declared.pool.Worker.{Worker}
use Rattle.road_workers.proofs.pool.starting.start_workers.Given as goal

abbrev pub invariant-loop-worker : goal.invariant-loop-worker
invariant-loop-worker g l = record {
  count : vec_len l.started ≡ l.worker;
  numbered : (w : ℕ) (d : Worker) → w < l.worker → (slice_index_or l.started.items w d).jobs.worker ≡ w;
}
