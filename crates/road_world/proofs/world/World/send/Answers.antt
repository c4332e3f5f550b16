-- The message of the event is made, and appended.
use Rattle.road_world.specs.Events.{sending_event}
use Rattle.road_world.proofs.AppliedEvents.{made_handed_on, post_handed_on}
use Rattle.road_world.proofs.world.World.send.Goals as goal

pub returns-in_err-message-clause-applied : goal.returns-in_err-message-clause-applied
returns-in_err-message-clause-applied c meter =
    made_handed_on (sending_event c.args.at c.args.sending) c.from_residual.result c.args.self.now meter c.in_err-message.field-0.0 c.from_residual.ensures.1 c.in_err-message.ensures.made

pub returns-in_err-number-clause-applied : goal.returns-in_err-number-clause-applied
returns-in_err-number-clause-applied c meter =
    rw c.event.ensures at (post_handed_on c.event.result c.from_residual-in_err-number.result c.args.self.now c.post.new.self meter c.from_residual-in_err-number.ensures.1 (c.in_err-number.ensures.applied meter))

pub returns-clause-applied : goal.returns-clause-applied
returns-clause-applied c meter = rw c.event.ensures at (c.in_ok-number.ensures.applied meter)
