-- A message is made whatever the count of the meter.
use Rattle.road_world.proofs.world.World.apply_there.Goals as goal

pub returns-in-Send-clause-applied : goal.returns-in-Send-clause-applied
returns-in-Send-clause-applied g c = rw c.in-Send.is (c.send.ensures.applied c.args.meter.now)

pub returns-in-Heads-clause-applied : goal.returns-in-Heads-clause-applied
returns-in-Heads-clause-applied g c = rw c.in-Heads.is (c.send-in-Heads.ensures.applied c.args.meter.now)

pub returns-in-Beyond-clause-applied : goal.returns-in-Beyond-clause-applied
returns-in-Beyond-clause-applied g c = rw c.in-Beyond.is (c.send-in-Beyond.ensures.applied c.args.meter.now)
