-- Each call has one session less.
use Rattle.std.proofs.Common.{length}
use Rattle.road_sessions.proofs.closing.+none_has.Given as goal

abbrev pub decreases-none_has : goal.decreases-none_has
decreases-none_has g l = length l.sessions.now
