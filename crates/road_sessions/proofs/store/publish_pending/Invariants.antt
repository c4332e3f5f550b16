-- What the loop keeps that publishes again and again: nothing is published yet.
use Rattle.std.proofs.Common.{◌≡◌, drop}
use Rattle.road_sessions.proofs.store.publish_pending.Given as goal

abbrev pub invariant-loop : goal.invariant-loop
invariant-loop g l = (l.writer.desk.shown.value ≡ l.initial.writer.desk.shown.value)
    × (drop l.writer.behind l.writer.log.items ≡ drop l.initial.writer.behind l.initial.writer.log.items)
