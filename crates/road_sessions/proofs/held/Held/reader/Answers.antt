-- The store admits a reader whose view is new.
use Rattle.road_sessions.proofs.StoreRule.{admits_new_view}
use Rattle.road_sessions.proofs.held.Held.reader.Goals as goal

pub reader-requires : goal.reader-requires
reader-requires g c = admits_new_view
