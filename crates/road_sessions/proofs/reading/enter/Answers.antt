-- The rule of the store lets a reader look.
use Rattle.road_sessions.proofs.StoreRule.{may_look}
use Rattle.road_sessions.proofs.reading.enter.Goals as goal

pub enter_as-requires : goal.enter_as-requires
enter_as-requires g c = may_look _ _
