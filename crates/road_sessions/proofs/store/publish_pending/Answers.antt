-- The given history is published next. It extends the published one.
use Rattle.std.proofs.Common.{◌≡◌, ◌∙◌, List, sym, subst}
use mathlib.Core.List.{IsPrefix}
use Rattle.road_sessions.specs.declared.entry.Entry.{Entry}
use Rattle.road_sessions.proofs.StoreRule.{ends_so, may_publish}
use Rattle.road_sessions.proofs.store.publish_pending.Goals as goal

pub publish_as-after-requires : goal.publish_as-after-requires
publish_as-after-requires g c next is =
    let kept = c.loop.invariant in
    let pending = c.requires.pending in
    let history : next ≡ c.args.history.now = ends_so c.args.history.now _ _ _ (pending.0, kept.1 ∙ pending.1) is in
    let grows : IsPrefix c.loop.writer.desk.shown.value c.args.history.now = rw kept.0 c.requires.grows in
    may_publish _ _ c.loop.writer.desk.shown.value next (subst (λ (l : List Entry). IsPrefix c.loop.writer.desk.shown.value l) (sym history) grows)

pub returns-in-Ok : goal.returns-in-Ok
returns-in-Ok g c =
    let kept = c.loop.invariant in
    let pending = c.requires.pending in
    ends_so c.args.history.now _ _ _ (pending.0, kept.1 ∙ pending.1) (rw c.in-Ok.is at c.publish_as-after.ensures.values).0
