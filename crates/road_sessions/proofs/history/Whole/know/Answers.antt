-- Whoever has the pen of the next page has seen all pages, so everything that others have seen is a prefix.
use Rattle.std.proofs.Common.{◌∙◌, List, ap, subst, sym}
use mathlib.Core.List.{IsPrefix}
use Rattle.road_sessions.specs.declared.entry.Entry.{Entry}
use Rattle.road_sessions.specs.declared.history.Page.{Page}
use Rattle.road_sessions.specs.Private.Books.{entries_from}
use Rattle.road_sessions.proofs.AppendedEntries.{entries_prefix, may_know_all}
use Rattle.road_sessions.proofs.Prefixes.{prefix_of_longer}
use Rattle.road_sessions.proofs.history.Whole.know.Goals as goal

pub compare_exchange-requires : goal.compare_exchange-requires
compare_exchange-requires g c =
    let word = c.args.head.now.word_is in
    let book = c.self.invariant.1 in
    let same = ap (λ w. w.book) word in
    let offer = c.plain-offer.ensures in (
      ap (λ w. w.tracked) word,
      c.learn.ensures.0 ∙ (ap (λ s. s.book) c.again-both.ensures ∙ (book ∙ sym same)),
      c.self.invariant.3 ∙ sym same,
      offer.0,
      rw (ap (λ w. w.key) word, offer.3) (may_know_all c.learn.new.self.log c.plain-offer.result.ask c.self.inside.pen.nib c.self.invariant.4),
    )

pub returns-clause-prefix : goal.returns-clause-prefix
returns-clause-prefix g c =
    let first = g.J.Naming.book.first_pen in
    let mine : List Page = c.self.inside.seen.log in
    let theirs : List Page = c.seen.inside.seen.log in
    let both : List Page = c.learn.new.self.log in
    let all : List Page = c.compare_exchange.new.seen.log in
    let front : IsPrefix mine both = subst (λ (l : List Page). IsPrefix l both) (ap (λ s. s.log) c.again-both.ensures) c.learn.ensures.2 in
    let told = c.compare_exchange.ensures in
    let whole = told.7.1 first mine front (sym c.self.invariant.5) in
    let known : IsPrefix theirs all = prefix_of_longer theirs both all c.learn.ensures.3 told.6 in
    rw (← c.self.view_is, ← c.seen.view_is)
    (subst (λ (l : List Entry). IsPrefix (entries_from first theirs) l) whole (entries_prefix first theirs all known))
