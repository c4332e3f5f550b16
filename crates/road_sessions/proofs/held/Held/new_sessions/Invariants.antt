-- The loop that makes the sessions: they have seen and written nothing, and each session to come has a part of the
-- ledger.
use Rattle.std.proofs.Common.{◌≡◌, ◌+◌, length}
use Rattle.road_sessions.specs.Sessions.{AreNewSessions}
use Rattle.road_sessions.proofs.held.Held.new_sessions.Given as goal

abbrev pub invariant-loop-number : goal.invariant-loop-number
invariant-loop-number g l = (length l.sessions.items ≡ l.number) × AreNewSessions 0 l.sessions.items × (l.whole.parts + l.number ≡ l.count) × (l.whole.amount ≡ 0)
