-- An extension by edits only takes them.
use Rattle.road_replica.proofs.Writes.{joined_write}
use Rattle.road_replica.proofs.replica.Replica.join.Goals as goal

pub returns-clause-write : goal.returns-clause-write
returns-clause-write g c =
    joined_write c.args.self.now _ c.args.scenario.now c.extend.result _ _ c.extend.ensures.sheet c.extend.ensures.refused c.extend.ensures.unchanged c.extend.ensures.steps c.extend.ensures.few_steps
