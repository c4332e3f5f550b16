-- The edits of a message are winners and fit the plan.
use Rattle.std.specs.Arc.{arc_value}
use Rattle.road_world.proofs.KeptWorlds.{carried_there}
use Rattle.road_world.proofs.world.World.message.Goals as goal

pub returns-clause-winners : goal.returns-clause-winners
returns-clause-winners c = (carried_there (arc_value c.self.inside.plan) c.self.inside.replicas.items c.self.inside.messages.items c.self.invariant c.args.self.now c.self.view_is c.args.number).winners

pub returns-clause-fits : goal.returns-clause-fits
returns-clause-fits c = (carried_there (arc_value c.self.inside.plan) c.self.inside.replicas.items c.self.inside.messages.items c.self.invariant c.args.self.now c.self.view_is c.args.number).in_range
