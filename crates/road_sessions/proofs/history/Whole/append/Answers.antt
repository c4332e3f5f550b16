-- The exchange appends the entry to the whole history, which stays legal.
use Rattle.std.proofs.Common.{◌≡◌, ◌∙◌, List, [], ◌∷◌, ◌++◌, ap, arith, length, length-append, refl, subst, sym}
use Rattle.road_sessions.specs.Journals.{IsLegal}
use Rattle.road_sessions.specs.declared.entry.Entry.{Entry}
use Rattle.road_sessions.specs.declared.history.Page.{Page}
use Rattle.road_sessions.specs.Private.Books.{entries_from, page}
use Rattle.road_sessions.proofs.AppendedEntries.{may_append}
use Rattle.road_sessions.proofs.Prefixes.{prefix_of_itself}
use Rattle.road_sessions.proofs.Replays.{legal_more}
use Rattle.road_sessions.proofs.history.Whole.append.Goals as goal

pub compare_exchange-requires : goal.compare_exchange-requires
compare_exchange-requires g c =
    let word = c.args.head.now.word_is in
    let same = ap (λ w. w.book) word in
    let offer = c.plain-offer.ensures in (
      ap (λ w. w.tracked) word,
      c.self.invariant.1 ∙ sym same,
      c.self.invariant.3 ∙ sym same,
      offer.0,
      rw (ap (λ w. w.key) word, offer.1, offer.3) (may_append c.self.inside.seen.log (page c.args.entry.now c.self.inside.pen.nib.key c.new_pen-next.result.nib.key) c.self.inside.pen.nib c.self.invariant.4 refl),
    )

pub invariant_of-self : goal.invariant_of-self
invariant_of-self g c =
    let r = g.J.Naming.replica in
    let first = g.J.Naming.book.first_pen in
    let seen : List Page = c.self.inside.seen.log in
    let after : List Page = c.compare_exchange.new.seen.log in
    let before : List Entry = entries_from first seen in
    let e : Entry = c.args.entry.now in
    let exchanged = c.compare_exchange.ensures in
    let asked = c.plain-offer.ensures.1 in
    let next = c.new_pen-next.ensures in
    let told = exchanged.7 first seen (prefix_of_itself seen) (sym c.self.invariant.5 ∙ sym (ap (λ (p : Page). p.by) asked)) in
    let more : entries_from first after ≡ before ++ e ∷ [] = told.0 ∙ ap (λ (p : Page). before ++ p.entry ∷ []) asked in
    let legal : IsLegal r (before ++ e ∷ []) = legal_more r before e c.self.invariant.2 c.requires.allowed in (
      (let n = ap length more in let m = length-append before (e ∷ []) in let counted = c.self.invariant.0 in omega arith),
      exchanged.0 ∙ c.self.invariant.1,
      subst (λ (l : List Entry). IsLegal r l) (sym more) legal,
      next.0 ∙ c.self.invariant.1,
      next.1,
      sym (told.1 ∙ ap (λ (p : Page). p.next) asked),
    )
