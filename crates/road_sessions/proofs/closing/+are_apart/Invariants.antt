-- Each call has one session less.
use Rattle.std.proofs.Common.{length}
use Rattle.road_sessions.proofs.closing.+are_apart.Given as goal

abbrev pub decreases-are_apart : goal.decreases-are_apart
decreases-are_apart g l = length l.sessions.now
