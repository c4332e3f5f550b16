-- Joining in at the key's page joins in at the key.
use Rattle.std.proofs.Common.{arith, ℕ, zero, suc, ◌≡◌, ◌<◌, false, T, length, ap, sym, subst, ◌∙◌}
use Rattle.std.proofs.lemmas.Bool.{true≢false}
use Rattle.std.proofs.lemmas.Result.{IfOk-weaker}
use Rattle.std.specs.Bool.{◌==◌}
use Rattle.std.specs.FinMap.Entries.{is_sorted}
use Rattle.lattice_core.specs.Private.Entries.{BeginsWith, all_entries, count_up_to, put_joined}
use Rattle.lattice_core.proofs.KeyPages.{IsPageOf, firsts-rise, join-page, page-to-join}
use Rattle.lattice_core.proofs.pages.join_in.Given as given
use Rattle.lattice_core.proofs.pages.join_in.Goals as goal

some : (n : ℕ) → false ≡ (n == 0) → 0 < n
some zero h = absurd (true≢false (sym h))
some (suc n) h = omega arith

pub count_up_to-requires : goal.count_up_to-requires
count_up_to-requires g c =
    subst (λ ps. T (is_sorted g.K.Ord.cmp ps)) (sym c.deref.ensures.value)
    (firsts-rise g.K.Ord.cmp g.met.K.Ord.total c.args.pages.now.items c.requires.pages c.requires.rising)

place : (g : given.Over) (c : goal.After-index_mut g)
    → IsPageOf g.K.Ord.cmp g.met.K.Ord.total c.args.key c.args.pages.now.items c.saturating_sub-at.result c.index_mut.result.now
place g c =
    page-to-join g.K.Ord.cmp g.met.K.Ord.total g.met.K.Exact.exact c.args.key c.args.pages.now.items c.count_up_to.result c.saturating_sub-at.result c.index_mut.result.now c.requires.pages c.requires.rising
    (subst (λ n. 0 < n) (sym c.deref.ensures.len ∙ ap length c.deref.ensures.value) (some _ c.if-is_empty.ensures))
    (c.count_up_to.ensures.count ∙ ap (count_up_to g.K.Ord.cmp c.args.key) c.deref.ensures.value) c.saturating_sub-at.ensures

pub join_in_page-requires : goal.join_in_page-requires
join_in_page-requires g c = subst (λ p. BeginsWith p.0 p.1) (sym c.index_mut.ensures.value) (place g c).first

pub returns-clause-joined : goal.returns-clause-joined
returns-clause-joined g c =
    let page = page-to-join g.K.Ord.cmp g.met.K.Ord.total g.met.K.Exact.exact c.args.key c.args.pages.now.items c.count_up_to.result c.saturating_sub-at.result c.index_mut.result.now c.requires.pages c.requires.rising
    (subst (λ n. 0 < n) (sym c.deref.ensures.len ∙ ap length c.deref.ensures.value) (some _ c.if-is_empty.ensures))
    (c.count_up_to.ensures.count ∙ ap (count_up_to g.K.Ord.cmp c.args.key) c.deref.ensures.value) c.saturating_sub-at.ensures in
    IfOk-weaker c.split.result _ (λ _. all_entries c.split.new.pages.items ≡ put_joined g.K.Ord.cmp g.V.Lattice.join (all_entries c.args.pages.now.items) c.args.key c.args.value.now)
    (λ _ same. same ∙ join-page g.K.Ord.cmp g.met.K.Ord.total g.V.Lattice.join c.args.key c.args.value.now c.args.pages.now.items c.saturating_sub-at.result c.index_mut.result.now c.join_in_page.new.page page
    (c.in_ok-join_in_page.ensures.joined ∙ ap (λ p. put_joined g.K.Ord.cmp g.V.Lattice.join p.1 c.args.key c.args.value.now) c.index_mut.ensures.value)) c.split.ensures.same
