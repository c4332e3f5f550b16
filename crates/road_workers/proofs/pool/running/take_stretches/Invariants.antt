-- The loop that takes what comes for this span.
use Rattle.std.proofs.Common.{◌≡◌, vec_len}
use Rattle.road_workers.specs.Private.Gathered.{AreRun}
use Rattle.road_workers.proofs.pool.running.take_stretches.Given as goal

abbrev pub invariant-loop : goal.invariant-loop
invariant-loop g l = record {
  goes_on : (goal.iterator-loop g).can_next l.iterator' × (goal.iterator-loop g).is_finite l.iterator';
  heard : l.inbox.lost ≡ l.fn.inbox.lost;
  count : vec_len l.places ≡ vec_len l.fn.places;
  gathered : AreRun l.shares.span.now l.shares.road.now l.shares.own l.places.items;
}
