-- The message that the event's replica makes fits the plan.
use Rattle.std.specs.Arc.{arc_value}
use Rattle.road_world.proofs.KeptWorlds.{made_fits}
use Rattle.road_world.specs.declared.event.Event.TheVariants as events
use Rattle.road_world.proofs.world.World.message_by.Goals as goal

pub returns-in-Whole-clause-fits : goal.returns-in-Whole-clause-fits
returns-in-Whole-clause-fits c =
    made_fits (arc_value c.self.inside.plan) c.self.inside.replicas.items c.self.inside.messages.items c.self.invariant c.args.self.now c.self.view_is (events.Send c.args.at) c.whole_message.result c.whole_message.ensures.made

pub returns-in-Asked-clause-fits : goal.returns-in-Asked-clause-fits
returns-in-Asked-clause-fits c =
    made_fits (arc_value c.self.inside.plan) c.self.inside.replicas.items c.self.inside.messages.items c.self.invariant c.args.self.now c.self.view_is (events.Heads c.args.at) c.heads_message.result c.heads_message.ensures.made

pub returns-in-Answer-clause-fits : goal.returns-in-Answer-clause-fits
returns-in-Answer-clause-fits c =
    made_fits (arc_value c.self.inside.plan) c.self.inside.replicas.items c.self.inside.messages.items c.self.invariant c.args.self.now c.self.view_is (events.Beyond c.args.at c.in-Answer.asked) c.delta_message.result c.delta_message.ensures.made
