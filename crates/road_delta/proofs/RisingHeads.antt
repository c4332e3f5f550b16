-- Heads of winners rise by object and step.
use Rattle.std.specs.Prelude.{◌≡◌, ℕ, zero, suc, ◌<◌, ◌&&◌, false, T, List, [], ◌∷◌, map, length}
use Rattle.std.specs.List.{slice_index_or}
use Rattle.std.specs.declared.cmp.Ordering.{Ordering}
use Rattle.std.specs.declared.cmp.Ordering.TheVariants.{Less, Equal, Greater}
use Rattle.std.specs.Ordering.{is_eq, is_lt, ordering_then}
use Rattle.std.proofs.Common.{arith, ap, subst, ◌∙◌}
use Rattle.lattice_core.specs.Instances.TestAnswers.{first_of_both, second_of_both, less_by_T}
use Rattle.lattice_core.specs.Sets.{contains, items, is_below, is_rising}
use Rattle.lattice_core.proofs.SetElements.{contains-items, items_rise}
use Rattle.road_scenario.specs.declared.edit.Edit.{Edit}
use Rattle.road_scenario.specs.Edits.{Edits, edit_cmp, is_exceeded_by, edit_place, edit_rank, number_triple_cmp}
use Rattle.road_scenario.specs.Instances.EditOrder.{winners_laws}
use Rattle.road_scenario.specs.Winners.{winners}
use Rattle.road_scenario.proofs.EditMembers.{IsIn, first_in, later_in}
use Rattle.road_scenario.proofs.RisingEdits.{both}
use Rattle.road_delta.specs.declared.heads.Head.{Head}
use Rattle.road_delta.specs.Deltas.{head_of, head_place, heads, AreRisingHeads}

-- the order of heads
abbrev pub head_cmp : Head → Head → Ordering
head_cmp g h = number_triple_cmp (head_place g) (head_place h)

-- ---- heads of winners

-- of two comparisons, one after the other, the first decides unless it finds the values equal
by_first : (p q : Ordering) → T (is_lt (ordering_then p q)) → (is_eq p && is_lt q) ≡ false → T (is_lt p)
by_first Less q h none = tt
by_first Equal q h none = subst T none h
by_first Greater q h none = h

below_heads : (e : Edit) (es : List Edit) → T (is_below edit_cmp e es) → ((f : Edit) → IsIn f es → is_exceeded_by e f ≡ false) → T (is_below head_cmp (head_of e) (map head_of es))
below_heads e [] h none = tt
below_heads e (f ∷ es) h none =
    let first = by_first (number_triple_cmp (edit_place e) (edit_place f)) (number_triple_cmp (edit_rank e) (edit_rank f)) (first_of_both (is_lt (edit_cmp e f)) _ h) (none f (first_in f es)) in
    both _ _ first (below_heads e es (second_of_both (is_lt (edit_cmp e f)) _ h) (λ g i. none g (later_in g f es i)))

heads_rise : (es : List Edit) → T (is_rising edit_cmp es) → ((e f : Edit) → IsIn e es → IsIn f es → is_exceeded_by e f ≡ false) → AreRisingHeads (map head_of es)
heads_rise [] h none = tt
heads_rise (e ∷ es) h none =
    both _ _ (below_heads e es (first_of_both (is_below edit_cmp e es) _ h) (λ f i. none e f (first_in e es) (later_in f e es i)))
    (heads_rise es (second_of_both (is_below edit_cmp e es) _ h) (λ f g i j. none f g (later_in f e es i) (later_in g e es j)))

-- the heads of a set of winners rise
pub rising-heads : (s : Edits) → winners s ≡ s → AreRisingHeads (heads s)
rising-heads s won = heads_rise (items s) (items_rise s) (λ e f i j.
    let top = (winners_laws.members s e).0 (ap (λ (t : Edits). contains t e) won ∙ contains-items s e ∙ i) in
    top.none f (contains-items s f ∙ j))

-- ---- rising lists, by place

module _ {K : Type 0} (R : K → K → Ordering) where
  below-at : (k : K) (ks : List K) (j : ℕ) (d : K) → T (is_below R k ks) → j < length ks → R k (slice_index_or ks j d) ≡ Less
  below-at k [] j d h inside = absurd (omega arith)
  below-at k (x ∷ ks) zero d h inside = less_by_T _ (first_of_both (is_lt (R k x)) _ h)
  below-at k (x ∷ ks) (suc j) d h inside = below-at k ks j d (second_of_both (is_lt (R k x)) _ h) (omega arith)

  -- of two elements of a rising list the later one is greater
  pub rising-at : (ks : List K) (i j : ℕ) (d : K) → T (is_rising R ks) → i < j → j < length ks → R (slice_index_or ks i d) (slice_index_or ks j d) ≡ Less
  rising-at [] i j d h before inside = absurd (omega arith)
  rising-at (k ∷ ks) i zero d h before inside = absurd (omega arith)
  rising-at (k ∷ ks) zero (suc j) d h before inside = below-at k ks j d (first_of_both (is_below R k ks) _ h) (omega arith)
  rising-at (k ∷ ks) (suc i) (suc j) d h before inside = rising-at ks i j d (second_of_both (is_below R k ks) _ h) (omega arith) (omega arith)
