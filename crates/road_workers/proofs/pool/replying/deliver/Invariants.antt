-- The loop that sends a reply until it is taken, or nobody takes replies.
use Rattle.std.proofs.Common.{◌≡◌}
use Rattle.road_workers.proofs.pool.replying.deliver.Given as goal

abbrev pub invariant-loop : goal.invariant-loop
invariant-loop g l = record {
  goes_on : (goal.iterator-loop g).can_next l.iterator' × (goal.iterator-loop g).is_finite l.iterator';
  same : l.again ≡ l.fn.reply;
}
