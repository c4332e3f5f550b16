-- A world's replicas and messages hold winners.
use Rattle.std.specs.Arc.{arc_value}
use Rattle.road_world.proofs.KeptWorlds.{world_wins}
use Rattle.road_world.proofs.world.World.plan.Goals as goal

pub returns-clause-winners : goal.returns-clause-winners
returns-clause-winners c = world_wins (arc_value c.self.inside.plan) c.self.inside.replicas.items c.self.inside.messages.items c.self.invariant c.args.self.now c.self.view_is
