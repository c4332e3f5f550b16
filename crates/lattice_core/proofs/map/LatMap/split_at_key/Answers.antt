-- The page of the key is split at the key. Pages before it are up to the key, and pages after it are after the key.
use Rattle.std.proofs.Common.{◌-◌, ◌++◌, [], suc, T, ap, drop, length, sym, subst, take, append-nil, ◌∙◌}
use Rattle.std.proofs.lemmas.List.{take_rest}
use Rattle.std.specs.FinMap.Entries.{is_sorted}
use Rattle.std.specs.List.{slice_index_or}
use Rattle.lattice_core.specs.Map.{entries_after, entries_up_to}
use Rattle.lattice_core.specs.Private.Entries.{all_entries, count_up_to}
use Rattle.lattice_core.proofs.KeyPages.{firsts-rise, page-of-count}
use Rattle.lattice_core.proofs.KeyRanges.{AreParted, parted-at-page, parted-before-all}
use Rattle.lattice_core.proofs.PlacesInLists.{last-place, some-if-not-zero}
use Rattle.lattice_core.proofs.map.LatMap.split_at_key.Given as given
use Rattle.lattice_core.proofs.map.LatMap.split_at_key.Goals as goal

pub count_up_to-count-requires : goal.count_up_to-count-requires
count_up_to-count-requires g c = let is = c.pages-pages.ensures.paged in firsts-rise g.K.Ord.cmp g.met.K.Ord.total c.pages-pages.result.now is.pages is.proper.rises

none : (g : given.Over) (c : goal.After-of-then-count-eq0 g) → AreParted g.K.Ord.cmp c.args.key (all_entries c.pages-pages.result.now) [] (all_entries c.pages-pages.result.now)
none g c =
    let is = c.pages-pages.ensures.paged in
    parted-before-all g.K.Ord.cmp g.met.K.Ord.total c.args.key c.pages-pages.result.now is.pages is.proper.rises (sym c.count_up_to-count.ensures.count ∙ c.if-count-eq0.true)

pub returns-then-count-eq0-clause-up_to : goal.returns-then-count-eq0-clause-up_to
returns-then-count-eq0-clause-up_to g c = c.of.ensures ∙ sym (none g c).0 ∙ ap (entries_up_to g.K.Ord.cmp c.args.key) c.pages-pages.ensures.all

pub returns-then-count-eq0-clause-after : goal.returns-then-count-eq0-clause-after
returns-then-count-eq0-clause-after g c =
    c.of-then-count-eq0.ensures ∙ append-nil (all_entries c.pages-pages.result.now) ∙ sym (none g c).1 ∙ ap (entries_after g.K.Ord.cmp c.args.key) c.pages-pages.ensures.all

parts : (g : given.Over) (c : goal.After-of-3 g)
    → let cmp = g.K.Ord.cmp in
    let ps = c.pages-pages.result.now in
    let at = c.count_up_to-count.result - 1 in
    let es = (slice_index_or ps at c.index-pages-count.result).1 in
    let n = count_up_to cmp c.args.key es in
    AreParted cmp c.args.key (all_entries ps) (all_entries (take at ps) ++ take n es) (drop n es ++ all_entries (drop (suc at) ps))
parts g c =
    let cmp = g.K.Ord.cmp in
    let ps = c.pages-pages.result.now in
    let is = c.pages-pages.ensures.paged in
    let at = c.count_up_to-count.result - 1 in
    let last = last-place _ _ c.count_up_to-count.ensures.count (some-if-not-zero _ c.if-count-eq0.false) in
    let page = page-of-count cmp g.met.K.Ord.total g.met.K.Exact.exact c.args.key ps at c.index-pages-count.result is.pages is.proper.rises last in
    parted-at-page cmp g.met.K.Ord.total c.args.key ps at c.index-pages-count.result page (subst (λ es. T (is_sorted cmp es)) c.entries-entries.ensures.all c.entries-entries.ensures.rising)

pub returns-clause-up_to : goal.returns-clause-up_to
returns-clause-up_to g c =
    let cmp = g.K.Ord.cmp in
    let same = c.entries-entries.ensures.all in
    c.of-2.ensures
    ∙ ap (λ x. all_entries (take (c.count_up_to-count.result - 1) c.pages-pages.result.now) ++ x)
    (c.split_at.ensures.front ∙ ap (λ n. take n c.entries-entries.result.now) c.count_up_to.ensures.count ∙ ap (λ es. take (count_up_to cmp c.args.key es) es) same)
    ∙ sym (parts g c).0 ∙ ap (entries_up_to cmp c.args.key) c.pages-pages.ensures.all

pub returns-clause-after : goal.returns-clause-after
returns-clause-after g c =
    let cmp = g.K.Ord.cmp in
    let ps = c.pages-pages.result.now in
    let n = c.count_up_to-count.result in
    let last = last-place _ _ c.count_up_to-count.ensures.count (some-if-not-zero _ c.if-count-eq0.false) in
    let behind = append-nil (all_entries (take (length ps - n) (drop n ps))) ∙ ap all_entries (take_rest ps n) ∙ ap (λ i. all_entries (drop i ps)) (c.count_up_to-count.ensures.count ∙ last) in
    c.of-3.ensures
    ∙ ap (λ x. x ++ (all_entries (take (length ps - n) (drop n ps)) ++ []))
    (c.split_at.ensures.back ∙ ap (λ n. drop n c.entries-entries.result.now) c.count_up_to.ensures.count ∙ ap (λ es. drop (count_up_to cmp c.args.key es) es) c.entries-entries.ensures.all)
    ∙ ap (λ x. drop (count_up_to cmp c.args.key (slice_index_or ps (n - 1) c.index-pages-count.result).1) (slice_index_or ps (n - 1) c.index-pages-count.result).1 ++ x) behind
    ∙ sym (parts g c).1 ∙ ap (entries_after cmp c.args.key) c.pages-pages.ensures.all
