-- The loop that sends the jobs: those so far were taken.
use Rattle.std.proofs.Common.{ℕ, ◌<◌}
use Rattle.road_workers.specs.Private.Jobs.{Took}
use Rattle.road_workers.proofs.pool.messages.send_in_turn.Given as goal

abbrev pub invariant-loop-worker : goal.invariant-loop-worker
invariant-loop-worker g l = (w : ℕ) → w < l.worker → Took (goal.M-post g l.make) (goal.F-post g l.send) l.workers w
