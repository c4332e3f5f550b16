-- The last pending operation is the one that was handed over.
use Rattle.std.proofs.Common.{◌∙◌, ◌++◌, ◌∷◌, [], List, ap, drop, sym}
use Rattle.road_sessions.specs.declared.entry.Entry.{Entry}
use Rattle.road_sessions.proofs.store.publish.Goals as goal

pub publish_pending-requires-clause-pending : goal.publish_pending-requires-clause-pending
publish_pending-requires-clause-pending g c =
    let before : List (List Entry) = drop c.args.writer.behind c.args.writer.log.items in
    let same = c.again-history.ensures.same ∙ c.history.ensures in
    (before, c.hand_over-writer.ensures.pending ∙ ap (λ (l : List Entry). before ++ l ∷ []) (sym same))
