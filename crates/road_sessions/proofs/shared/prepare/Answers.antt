-- The replica has the given number.
use Rattle.road_sessions.proofs.shared.prepare.Goals as goal

pub returns-clause-replica : goal.returns-clause-replica
returns-clause-replica g c = c.in_ok-replica.ensures.replica
