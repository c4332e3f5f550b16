-- The write is the one that the wish asks for.
use Rattle.road_sessions.proofs.session.Session.withdraw.Goals as goal

pub returns-clause-write : goal.returns-clause-write
returns-clause-write g c = c.write.ensures.write
