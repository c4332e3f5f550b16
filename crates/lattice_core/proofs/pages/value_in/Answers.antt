-- The value at a key is found in the key's page.
use Rattle.std.proofs.Common.{◌-◌, ap, sym, ◌∙◌}
use Rattle.std.specs.FinMap.Entries.{find}
use Rattle.lattice_core.proofs.KeyPages.{find-no_page, find-page, firsts-rise, page-of-count}
use Rattle.lattice_core.proofs.PlacesInLists.{last-place, some-if-not-zero}
use Rattle.lattice_core.proofs.pages.value_in.Goals as goal

pub count_up_to-count-requires : goal.count_up_to-count-requires
count_up_to-count-requires g c = firsts-rise g.K.Ord.cmp g.met.K.Ord.total c.args.pages.now c.requires.pages c.requires.rising

pub returns-then-count-eq0 : goal.returns-then-count-eq0
returns-then-count-eq0 g c =
    find-no_page g.K.Ord.cmp g.met.K.Ord.total c.args.key c.args.pages.now c.requires.pages c.requires.rising (sym c.count_up_to-count.ensures.count ∙ c.if-count-eq0.true)

pub returns : goal.returns
returns g c =
    let cmp = g.K.Ord.cmp in
    let at = c.count_up_to-count.result - 1 in
    let last = last-place _ _ c.count_up_to-count.ensures.count (some-if-not-zero _ c.if-count-eq0.false) in
    let page = page-of-count cmp g.met.K.Ord.total g.met.K.Exact.exact c.args.key c.args.pages.now at c.index-pages-count.result c.requires.pages c.requires.rising last in
    c.value_at.ensures ∙ ap (find cmp c.args.key) c.entries.ensures.all ∙ find-page cmp g.met.K.Ord.total c.args.key c.args.pages.now at c.index-pages-count.result page
