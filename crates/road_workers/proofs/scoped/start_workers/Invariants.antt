-- The loop that starts the workers of a call.
use Rattle.std.proofs.Common.{◌≡◌, vec_len}
use Rattle.road_workers.specs.Private.Started.{AreStartedFrom}
use Rattle.road_workers.proofs.scoped.start_workers.Given as goal

abbrev pub invariant-loop-worker : goal.invariant-loop-worker
invariant-loop-worker g l = record {
  count : vec_len l.started ≡ l.worker;
  each : AreStartedFrom l.input l.workers 0 l.started.items;
}
