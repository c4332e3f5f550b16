-- The loop that waits for memory: nothing is handed over yet.
use Rattle.std.proofs.Common.{◌≡◌, drop}
use Rattle.road_sessions.proofs.store.hand_over.Given as goal

abbrev pub invariant-loop : goal.invariant-loop
invariant-loop g l = (l.writer.desk ≡ l.initial.writer.desk) × (l.next ≡ l.initial.next)
    × (drop l.writer.behind l.writer.log.items ≡ drop l.initial.writer.behind l.initial.writer.log.items)
