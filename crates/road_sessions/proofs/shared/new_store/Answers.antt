-- A new store has only its writer, and nobody has found anything yet, so its rule holds.
use Rattle.std.proofs.Common.{[], sym}
use mathlib.Core.Option.{some-ne-none}
use Rattle.road_sessions.proofs.StoreRule.{admits_new_view}
use Rattle.road_sessions.proofs.shared.new_store.Goals as goal

pub new-requires-clause-rule : goal.new-requires-clause-rule
new-requires-clause-rule g c = admits_new_view c.args.first [] (λ reader v at. absurd (some-ne-none v (sym at)))
