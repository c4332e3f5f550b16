-- Each call has one share less.
use Rattle.std.proofs.Common.{length}
use Rattle.road_crowd.proofs.threads.+run_sessions.Given as goal

abbrev pub decreases-run_sessions : goal.decreases-run_sessions
decreases-run_sessions g l = length l.shares.now
