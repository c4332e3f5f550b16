-- Each call has one session less.
use Rattle.std.proofs.Common.{length}
use Rattle.road_sessions.proofs.closing.+know_all.Given as goal

abbrev pub decreases-know_all : goal.decreases-know_all
decreases-know_all g l = length l.sessions.now
