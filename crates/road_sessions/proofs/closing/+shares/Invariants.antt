-- Each call has one session less.
use Rattle.std.proofs.Common.{length}
use Rattle.road_sessions.proofs.closing.+shares.Given as goal

abbrev pub decreases-shares : goal.decreases-shares
decreases-shares g l = length l.sessions.items
