-- All edits that a replica holds are the message of its event.
use Rattle.std.specs.Arc.{arc_value}
use Rattle.road_world.proofs.EventAnswers.{fault_there}
use Rattle.road_world.proofs.KeptWorlds.{below_kept, whole_made}
use Rattle.road_world.specs.declared.event.Event.TheVariants as events
use Rattle.road_world.proofs.world.World.whole_message.Goals as goal

pub returns-clause-made : goal.returns-clause-made
returns-clause-made c =
    let plan = arc_value c.self.inside.plan in
    let xs = c.self.inside.replicas.items in
    let ms = c.self.inside.messages.items in
    let k = c.args.self.now in
    let below = below_kept plan xs ms c.self.invariant k c.self.view_is c.args.at c.requires in (
      fault_there k (events.Send c.args.at) c.requires,
      whole_made plan xs ms c.self.invariant k c.self.view_is c.args.at c.index.result.now c.in_ok-scenario.scenario c.index.ensures below c.in_ok-scenario.ensures.message,
    )
