-- Of two prefixes of one history the shorter is a prefix of the longer.
use Rattle.std.proofs.Common.{List, ap, subst}
use mathlib.Core.List.{IsPrefix}
use Rattle.road_sessions.specs.declared.history.Page.{Page}
use Rattle.road_sessions.specs.Private.Books.{entries_from}
use Rattle.road_sessions.proofs.AppendedEntries.{entries_prefix}
use Rattle.road_sessions.proofs.Prefixes.{prefix_as_compared}
use Rattle.road_sessions.proofs.history.Prefix.is_prefix_of.Goals as goal

pub returns-clause-prefix : goal.returns-clause-prefix
returns-clause-prefix g c =
    let first = g.J.Naming.book.first_pen in
    let all : List Page = c.learn.new.self.log in
    let this : IsPrefix c.self.inside.seen.log all = subst (λ (l : List Page). IsPrefix l all) (ap (λ s. s.log) c.again-both.ensures) c.learn.ensures.2 in
    rw (← c.self.view_is, ← c.other.view_is)
    (prefix_as_compared (entries_from first c.self.inside.seen.log) (entries_from first c.other.inside.seen.log) (entries_from first all) c.self.inside.count c.other.inside.count c.self.invariant.0 c.other.invariant.0
    (entries_prefix first c.self.inside.seen.log all this) (entries_prefix first c.other.inside.seen.log all c.learn.ensures.3))
