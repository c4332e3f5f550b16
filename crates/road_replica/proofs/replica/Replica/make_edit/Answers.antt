-- The stamp of the edit that is made is greater than those that the replica held.
use Rattle.road_replica.proofs.FreshStamps.{made_stamp_is_fresh}
use Rattle.road_replica.proofs.replica.Replica.make_edit.Goals as goal

pub returns-clause-fresh : goal.returns-clause-fresh
returns-clause-fresh g c =
    made_stamp_is_fresh c.args.self.now c.args.local.object c.args.local.step c.args.local.value c.in_ok-stamp.stamp c.in_ok-stamp.ensures.stamp
