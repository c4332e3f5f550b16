-- The result of a binary search among rising heads for an edit.
use Rattle.std.specs.Prelude.{◌≡◌, ℕ, ◌<◌, ◌≤◌, ◌||◌, not, true, false, List, length, refl}
use Rattle.std.specs.List.{list_any, slice_index_or}
use Rattle.std.specs.List.Sorted.{IsNonDecreasingBy, IsPartitionPoint}
use Rattle.std.specs.declared.cmp.Ordering.{Ordering}
use Rattle.std.specs.declared.cmp.Ordering.TheVariants.{Less, Equal, Greater}
use Rattle.std.specs.Ordering.{nat_cmp, is_eq, is_lt, is_le, is_some_and, partial_le, ordering_index, ordering_then, ordering_reverse}
use Rattle.std.specs.Cmp.{Some-then}
use Rattle.std.proofs.Common.{arith, sym, ap, ◌∙◌, inl, inr}
use Rattle.std.proofs.lemmas.Bool.{true≢false, false_from_ne_true, and_from, and_parts, not_from_false, cases_Bool, cases_lt, or_left}
use Rattle.std.proofs.lemmas.List.{get_or_default}
use Rattle.std.proofs.lemmas.List.Folds.{list_any_at, list_any_none}
use Rattle.road_plan.specs.Instances.ObjectOrder.{ordered}
use Rattle.road_scenario.specs.declared.edit.Edit.{Edit}
use Rattle.road_scenario.specs.declared.edit.Stamp.{Stamp}
use Rattle.road_scenario.specs.contracts.edit.StampPartialOrd.TheImpl as derived_stamp
use Rattle.road_scenario.specs.Edits.{Place, edit_place, number_triple_cmp, number_pair_cmp, stamp_key}
use Rattle.road_scenario.specs.Instances.EditOrder.{number_pair_total, number_triple_exact, number_triple_total}
use Rattle.road_scenario.specs.Instances.RegisterLattice.{object_cmp}
use Rattle.road_delta.specs.declared.heads.Head.{Head}
use Rattle.road_delta.specs.Deltas.{head_place, is_head_at, is_stamp_above, is_beyond, AreRisingHeads}
use Rattle.road_delta.proofs.DeltaEdits.{is_head_reached}
use Rattle.road_delta.proofs.RisingHeads.{head_cmp, rising-at}

-- ---- places

turned : (p q : Place) (r : Ordering) → number_triple_cmp p q ≡ r → number_triple_cmp q p ≡ ordering_reverse r
turned p q r e = number_triple_total.antisymm q p ∙ ap ordering_reverse e

-- if a place is after another, it compares with a third place as the other does or as greater
further : (p q at : Place) → number_triple_cmp p q ≡ Less → ordering_index (number_triple_cmp p at) ≤ ordering_index (number_triple_cmp q at)
further p q at before = elim (number_triple_cmp p at) as (λ r. number_triple_cmp p at ≡ r → ordering_index r ≤ ordering_index (number_triple_cmp q at)) [
  | Less ↦ λ e. omega arith
  | Equal ↦ λ e. let last = turned at q Less (ap (λ x. number_triple_cmp x q) (sym (number_triple_exact p at e)) ∙ before) in omega (arith, ap ordering_index last)
  | Greater ↦ λ e. let last = turned at q Less (number_triple_total.trans at p q (turned p at Greater e) before) in omega (arith, ap ordering_index last)
] refl

-- ---- the search

-- the comparison of the search: the object and the step of a head with those of an edit
abbrev pub search_cmp : Edit → Head → Ordering
search_cmp e h = ordering_then (object_cmp h.object e.object) (nat_cmp h.step e.step)

module _ (hs : List Head) (e : Edit) where
  by_place : (h : Head) → search_cmp e h ≡ number_triple_cmp (head_place h) (edit_place e)
  by_place h = ap (λ r. ordering_then r (nat_cmp h.step e.step)) (ordered h.object e.object)

  no_head : (h : Head) (r : Ordering) → search_cmp e h ≡ r → is_eq (ordering_reverse r) ≡ false → is_head_at e h ≡ false
  no_head h r is other = ap is_eq (turned (head_place h) (edit_place e) r (sym (by_place h) ∙ is)) ∙ other

  head_here : (h : Head) → search_cmp e h ≡ Equal → is_head_at e h ≡ true
  head_here h is = ap is_eq (turned (head_place h) (edit_place e) Equal (sym (by_place h) ∙ is))

  module _ (rise : AreRisingHeads hs) where
    -- the results of the comparison do not fall along the heads
    pub answers_rise : IsNonDecreasingBy (λ h. ordering_index (search_cmp e h)) hs
    answers_rise i j d le inside = elim (cases_lt i j) as (λ _. ordering_index (search_cmp e (slice_index_or hs i d)) ≤ ordering_index (search_cmp e (slice_index_or hs j d))) [
      | inl lt ↦
          let g = slice_index_or hs i d in
          let h = slice_index_or hs j d in
          let later = further (head_place g) (head_place h) (edit_place e) (rising-at head_cmp hs i j d rise lt inside) in
          omega (arith, ap ordering_index (by_place g), ap ordering_index (by_place h))
      | inr ge ↦ let same : i ≡ j = omega arith in omega (arith, ap (λ k. ordering_index (search_cmp e (slice_index_or hs k d))) same)
    ]

    -- if no head was found, the edit is beyond
    pub absent : (gap : ℕ) → IsPartitionPoint (λ h. search_cmp e h ≡ Less) (λ h. search_cmp e h ≡ Greater) hs gap → is_beyond hs e ≡ true
    absent gap point = or_left _ _ (not_from_false _ (list_any_none (is_head_at e) hs (λ k d inside. elim (cases_lt k gap) as (λ _. is_head_at e (slice_index_or hs k d) ≡ false) [
      | inl before ↦ no_head (slice_index_or hs k d) Less (point.0 k d (omega arith) before) refl
      | inr after ↦ no_head (slice_index_or hs k d) Greater (point.1 k d after inside) refl
    ])))

    -- only the head that was found has the edit's object and step
    other_heads : (k i : ℕ) (d : Head) → k < length hs → i < length hs → search_cmp e (slice_index_or hs k d) ≡ Equal → is_head_at e (slice_index_or hs i d) ≡ true → i ≡ k
    other_heads k i d at inside equal here = elim (cases_lt i k) as (λ _. i ≡ k) [
      | inl before ↦ absurd (true≢false (sym here ∙ ap is_eq (turned (head_place g) (edit_place e) Less (ap (number_triple_cmp (head_place g)) place ∙ rising-at head_cmp hs i k d rise before at))))
      | inr not_before ↦ elim (cases_lt k i) as (λ _. i ≡ k) [
        | inl after ↦ absurd (true≢false (sym here ∙ ap is_eq (ap (λ p. number_triple_cmp p (head_place g)) place ∙ rising-at head_cmp hs k i d rise after inside)))
        | inr not_after ↦ omega arith
      ]
    ]
      where
        g : Head
        g = slice_index_or hs i d

        place : edit_place e ≡ head_place (slice_index_or hs k d)
        place = sym (number_triple_exact (head_place (slice_index_or hs k d)) (edit_place e) (sym (by_place (slice_index_or hs k d)) ∙ equal))

    -- if a head was found, its stamp decides
    pub found : (k : ℕ) (d : Head) → k < length hs → ((x : Head) → search_cmp e (slice_index_or hs k x) ≡ Equal) → is_beyond hs e ≡ not (is_stamp_above e (slice_index_or hs k d))
    found k d at equal =
        let h = slice_index_or hs k d in
        let here = head_here h (equal d) in
        ap (λ b. not b || list_any (is_head_reached e) hs) (list_any_at (is_head_at e) hs k d at here)
        ∙ elim (cases_Bool (is_stamp_above e h)) as (λ _. list_any (is_head_reached e) hs ≡ not (is_stamp_above e h)) [
          | inl above ↦ list_any_none (is_head_reached e) hs (none above) ∙ sym (ap not above)
          | inr not_above ↦ list_any_at (is_head_reached e) hs k d at (and_from _ _ here (not_from_false _ not_above)) ∙ sym (ap not not_above)
        ]
      where
        none : is_stamp_above e (slice_index_or hs k d) ≡ true → (i : ℕ) (x : Head) → i < length hs → is_head_reached e (slice_index_or hs i x) ≡ false
        none above i x inside = false_from_ne_true _ (λ t.
            let two = and_parts (is_head_at e (slice_index_or hs i x)) _ t in
            let same : slice_index_or hs i x ≡ slice_index_or hs k d = ap (λ n. slice_index_or hs n x) (other_heads k i x at inside (equal x) two.0) ∙ get_or_default hs k x d at in
            true≢false (sym two.1 ∙ ap (λ g. not (is_stamp_above e g)) same ∙ ap not above))

not_less : (r : Ordering) → is_le (ordering_reverse r) ≡ not (is_lt r)
not_less Less = refl
not_less Equal = refl
not_less Greater = refl

-- the derived test that a stamp is at most another says that it is not greater
pub not_above : (s t : Stamp) → partial_le derived_stamp.ghosts.partial_cmp s t ≡ not (is_lt (number_pair_cmp (stamp_key t) (stamp_key s)))
not_above s t =
    ap (is_some_and is_le) (Some-then (nat_cmp s.count t.count) (nat_cmp s.number t.number))
    ∙ ap is_le (number_pair_total.antisymm (stamp_key s) (stamp_key t)) ∙ not_less (number_pair_cmp (stamp_key t) (stamp_key s))
