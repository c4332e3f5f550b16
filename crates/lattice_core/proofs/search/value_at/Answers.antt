-- The last pair up to the key decides.
use Rattle.std.proofs.Common.{◌-◌, ap, sym, ◌∙◌}
use Rattle.std.specs.Ordering.{is_lt}
use Rattle.std.specs.declared.option.Option.TheVariants.{Some}
use Rattle.lattice_core.proofs.KeyPlaces.{find-before-all, find-behind-last, find-there}
use Rattle.lattice_core.proofs.PlacesInLists.{last-place, some-if-not-zero}
use Rattle.lattice_core.proofs.search.value_at.Goals as goal

pub returns-then-count-eq0 : goal.returns-then-count-eq0
returns-then-count-eq0 g c = find-before-all g.K.Ord.cmp g.met.K.Ord.total c.args.key c.args.pairs.now c.requires (sym c.count_up_to-count.ensures.count ∙ c.if-count-eq0.true)

pub returns-then-is_before : goal.returns-then-is_before
returns-then-is_before g c =
    find-behind-last g.K.Ord.cmp g.met.K.Ord.total g.met.K.Exact.exact c.args.key c.args.pairs.now (c.count_up_to-count.result - 1) c.index-pairs-count.result c.requires
    (last-place _ _ c.count_up_to-count.ensures.count (some-if-not-zero _ c.if-count-eq0.false))
    (ap (λ p. is_lt (g.K.Ord.cmp p.0 c.args.key)) (sym c.index-pairs-count.is) ∙ sym c.is_before.ensures ∙ c.if-is_before.true)

pub returns : goal.returns
returns g c =
    ap (λ p. Some p.1) c.index-pairs-count.is
    ∙ find-there g.K.Ord.cmp g.met.K.Ord.total g.met.K.Exact.exact c.args.key c.args.pairs.now (c.count_up_to-count.result - 1) c.index-pairs-count.result c.requires
    (last-place _ _ c.count_up_to-count.ensures.count (some-if-not-zero _ c.if-count-eq0.false))
    (ap (λ p. is_lt (g.K.Ord.cmp p.0 c.args.key)) (sym c.index-pairs-count.is) ∙ sym c.is_before.ensures ∙ c.if-is_before.false)
