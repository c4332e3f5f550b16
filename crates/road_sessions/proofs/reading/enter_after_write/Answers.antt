-- The rule of the store lets a reader enter after its session's write.
use Rattle.road_sessions.proofs.StoreRule.{may_enter_after_write}
use Rattle.road_sessions.proofs.reading.enter_after_write.Goals as goal

pub enter_as-requires : goal.enter_as-requires
enter_as-requires g c = may_enter_after_write _ _
