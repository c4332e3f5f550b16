-- The replica at which the event happens.
use Rattle.std.proofs.Common.{rules}
use Rattle.road_world.proofs.event.Event.replica.Goals as goal

pub returns-in-Take : goal.returns-in-Take
returns-in-Take c = search rules
