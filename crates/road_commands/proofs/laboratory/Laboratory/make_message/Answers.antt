-- The message is made in the laboratory's world.
use Rattle.std.proofs.Common.{ap, subst}
use Rattle.road_world.specs.Applied.{IsMade}
use Rattle.road_world.specs.Events.{World, sending_event}
use Rattle.road_commands.specs.Laboratory.{Laboratory}
use Rattle.road_commands.proofs.laboratory.Laboratory.make_message.Goals as goal

pub returns-clause-made : goal.returns-clause-made
returns-clause-made g c =
    subst (λ (w : World). IsMade w (sending_event c.args.at c.args.sending) c.message_by.result) (ap (λ (l : Laboratory). l.world) c.self.view_is) c.message_by.ensures.made
