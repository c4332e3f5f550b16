-- The stamp and the message of an event, from its answer and the world after it.
use Rattle.std.specs.Arc.{arc_value}
use Rattle.road_world.proofs.FreshStamps.{issued_is_new}
use Rattle.road_world.proofs.KeptWorlds.{world_wins}
use Rattle.road_world.proofs.MadeMessages.{messages_made}
use Rattle.road_world.proofs.world.World.apply.Goals as goal

pub returns-clause-stamp : goal.returns-clause-stamp
returns-clause-stamp g c =
    issued_is_new c.args.event.now c.args.self.now c.apply_there.result c.apply_there.ensures.applied.answer

pub returns-clause-messages : goal.returns-clause-messages
returns-clause-messages g c =
    let wins = world_wins (arc_value c.self.inside.plan) c.self.inside.replicas.items c.self.inside.messages.items c.self.invariant c.args.self.now c.self.view_is in
    messages_made c.args.event.now c.apply_there.result c.args.self.now c.apply_there.new.self wins c.apply_there.ensures.applied.after
