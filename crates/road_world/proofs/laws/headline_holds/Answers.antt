-- The headline holds for every list of events, and the stamps that its world issues are fresh.
use Rattle.std.proofs.Common.{refl}
use Rattle.road_world.specs.Events.{world_of_events, world_of_winners}
use Rattle.road_world.proofs.AppliedEvents.{few_of_event}
use Rattle.road_world.proofs.FreshStamps.{stamps_are_fresh}
use Rattle.road_world.proofs.HeadlineOfWinners.{headline}
use Rattle.road_world.proofs.laws.headline_holds.Goals as goal

pub returns : goal.returns
returns c = record {
  headline = λ plan count events replies. headline plan count events replies (world_of_winners (world_of_events plan count events replies)) refl;
  messages = λ plan count events replies. refl;
  steps = few_of_event;
  stamps = λ plan count events replies few answers. stamps_are_fresh plan count events replies few answers;
}
