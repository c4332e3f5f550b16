-- The two parts together are the page.
use Rattle.std.proofs.Common.{◌≡◌, ◌+◌, ◌++◌, suc, T, take, drop, arith, ap, sym, subst, ◌∙◌, take-append-drop}
use Rattle.std.specs.FinMap.Entries.{is_sorted}
use Rattle.std.specs.List.{insert, slice_index_or, slice_set}
use Rattle.lattice_core.specs.Private.Entries.{ArePages, BeginsWith, all_entries}
use Rattle.lattice_core.proofs.KeyPages.{all_entries-split}
use Rattle.lattice_core.proofs.KeyPlaces.{sorted-back, sorted-front}
use Rattle.lattice_core.proofs.PlacesInLists.{all-insert, all-set}
use Rattle.lattice_core.proofs.pages.split.Given as given
use Rattle.lattice_core.proofs.pages.split.Goals as goal

pub of_entries-requires-clause-rising : goal.of_entries-requires-clause-rising
of_entries-requires-clause-rising g c =
    let es = c.entries-entries.result.now in
    subst (λ x. T (is_sorted g.K.Ord.cmp x)) (sym c.split_at.ensures.front)
    (sorted-front g.K.Ord.cmp (take c.if-at-len.place es) (drop c.if-at-len.place es) (subst (λ x. T (is_sorted g.K.Ord.cmp x)) (sym (take-append-drop c.if-at-len.place es)) c.entries-entries.ensures.rising))

pub of_entries-requires-2-clause-rising : goal.of_entries-requires-2-clause-rising
of_entries-requires-2-clause-rising g c =
    let es = c.entries-entries.result.now in
    subst (λ x. T (is_sorted g.K.Ord.cmp x)) (sym c.split_at.ensures.back)
    (sorted-back g.K.Ord.cmp (take c.if-at-len.place es) (drop c.if-at-len.place es) (subst (λ x. T (is_sorted g.K.Ord.cmp x)) (sym (take-append-drop c.if-at-len.place es)) c.entries-entries.ensures.rising))

new : (g : given.Over) (c : goal.In_ok-insert g) → c.insert.new.self.items ≡ insert (slice_set c.args.pages.now.items c.args.at c.in_ok-lower.lower) (suc c.args.at) c.in_ok-upper.upper
new g c =
    let next : c.args.at + 1 ≡ suc c.args.at = omega arith in
    c.in_ok-insert.ensures.items ∙ ap (λ n. insert (slice_set c.args.pages.now.items c.args.at c.in_ok-lower.lower) n c.in_ok-upper.upper) next

pub returns-clause-same : goal.returns-clause-same
returns-clause-same g c =
    let es = c.entries-entries.result.now in
    let whole : c.in_ok-lower.lower.1 ++ c.in_ok-upper.upper.1 ≡ (slice_index_or c.args.pages.now.items c.args.at c.index.result.now).1 =
    ap (λ x. x ++ c.in_ok-upper.upper.1) (c.in_ok-lower.ensures.all ∙ c.split_at.ensures.front)
    ∙ ap (λ x. take c.if-at-len.place es ++ x) (c.in_ok-upper.ensures.all ∙ c.split_at.ensures.back)
    ∙ take-append-drop c.if-at-len.place es ∙ c.entries-entries.ensures.all ∙ ap (λ p. p.1) c.index.ensures in
    ap all_entries (new g c) ∙ all_entries-split c.args.pages.now.items c.args.at c.index.result.now c.in_ok-lower.lower c.in_ok-upper.upper c.requires.at whole

pub returns-clause-pages : goal.returns-clause-pages
returns-clause-pages g c =
    subst ArePages (sym (new g c))
    (all-insert (λ p. BeginsWith p.0 p.1) (slice_set c.args.pages.now.items c.args.at c.in_ok-lower.lower) (suc c.args.at) c.in_ok-upper.upper c.in_ok-upper.ensures.first
    (all-set (λ p. BeginsWith p.0 p.1) c.args.pages.now.items c.args.at c.in_ok-lower.lower c.in_ok-lower.ensures.first c.requires.pages))
