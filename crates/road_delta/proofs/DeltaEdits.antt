-- What a delta leaves out, and the result of joining it.
use Rattle.std.specs.Prelude.{◌≡◌, ◌||◌, ◌&&◌, not, Bool, true, false, List, [], ◌∷◌, map, refl}
use Rattle.std.specs.List.{list_any, filter}
use Rattle.std.specs.declared.cmp.Ordering.{Ordering}
use Rattle.std.specs.declared.cmp.Ordering.TheVariants.{Less, Equal, Greater}
use Rattle.std.specs.Ordering.{is_eq, is_lt, ordering_then, nat_cmp}
use Rattle.std.specs.Cmp.{tied_itself}
use Rattle.std.proofs.Common.{sym, ap, ◌∙◌, inl, inr}
use Rattle.std.proofs.lemmas.Bool.{true≢false, or_parts, and_parts, and_from, not_from_false, not-false, cases_Bool, or_right}
use Rattle.lattice_core.specs.Sets.{contains, from_list, items}
use Rattle.lattice_core.specs.Tops.{IsTop}
use Rattle.lattice_core.proofs.SetElements.{contains-from_list, contains-items, contains-retain, same_set}
use Rattle.lattice_core.proofs.GreatestElements.{any_gives, any_by, same_elements}
use Rattle.road_scenario.specs.declared.edit.Edit.{Edit}
use Rattle.road_scenario.specs.Edits.{Edits, is_exceeded_by, edit_place, number_triple_cmp, number_pair_cmp, stamp_key, value_key}
use Rattle.road_plan.specs.Plan.{Plan}
use Rattle.road_scenario.specs.Faults.{AreInRange}
use Rattle.road_scenario.proofs.EditMembers.{any-filter}
use Rattle.road_scenario.specs.Instances.EditOrder.{edit_total, edit_exact, number_pair_total, number_triple_total, winners_laws}
use Rattle.road_scenario.specs.Winners.{winners, join}
use Rattle.road_delta.specs.declared.heads.Head.{Head}
use Rattle.road_delta.specs.Deltas.{head_of, heads, is_head_at, is_stamp_above, is_beyond, beyond, IsBehind}

-- whether a head has an edit's object and step, and not a greater stamp
abbrev pub is_head_reached : Edit → Head → Bool
is_head_reached e h = is_head_at e h && not (is_stamp_above e h)

-- a test of the heads of edits is a test of the edits
any-heads : (p : Head → Bool) (es : List Edit) → list_any p (map head_of es) ≡ list_any (λ e. p (head_of e)) es
any-heads p [] = refl
any-heads p (e ∷ es) = ap (λ b. p (head_of e) || b) (any-heads p es)

-- an edit that a delta leaves out is behind the set
pub left_out : (s : Edits) (e : Edit) → is_beyond (heads s) e ≡ false → IsBehind s e
left_out s e out =
    let two = or_parts (not (list_any (is_head_at e) (heads s))) (list_any (is_head_reached e) (heads s)) out in
    let f = any_gives edit_total edit_exact (λ g. is_head_at e (head_of g)) (items s) (sym (any-heads (is_head_at e) (items s)) ∙ not-false _ two.0) in
    let none : list_any (λ g. is_head_reached e (head_of g)) (items s) ≡ false = sym (any-heads (is_head_reached e) (items s)) ∙ two.1 in
    record {
      newer = f.0;
      held = contains-items s f.0 ∙ f.1;
      same_place = f.2;
      smaller_stamp = elim (cases_Bool (is_stamp_above e (head_of f.0))) as (λ _. is_stamp_above e (head_of f.0) ≡ true) [
        | inl above ↦ above
        | inr not_above ↦
            let reached = any_by edit_total edit_exact (λ g. is_head_reached e (head_of g)) (items s) f.0 f.1 (and_from _ _ f.2 (not_from_false _ not_above)) in
            absurd (true≢false (sym reached ∙ none))
      ];
    }

less_first : (r x : Ordering) → is_lt r ≡ true → is_lt (ordering_then r x) ≡ true
less_first Less x h = refl
less_first Equal x h = absurd (true≢false (sym h))
less_first Greater x h = absurd (true≢false (sym h))

-- an edit with a smaller stamp at the same object and step is exceeded
behind_exceeded : (s : Edits) (e : Edit) (b : IsBehind s e) → is_exceeded_by e b.newer ≡ true
behind_exceeded s e b =
    let rank = less_first (number_pair_cmp (stamp_key e.stamp) (stamp_key b.newer.stamp)) (nat_cmp (value_key e.value) (value_key b.newer.value)) b.smaller_stamp in
    and_from (is_eq (number_triple_cmp (edit_place e) (edit_place b.newer))) _ b.same_place rank

-- joining to a set the edits beyond its heads gives the same as joining all edits
pub join-beyond : (s t : Edits) → join s (beyond t (heads s)) ≡ join s t
join-beyond s t = winners_laws.without s t (is_beyond (heads s)) (λ e inside out.
    let b = left_out s e out in
    any_by edit_total edit_exact (is_exceeded_by e) (items s) b.newer (sym (contains-items s b.newer) ∙ b.held) (behind_exceeded s e b))

-- an edit is in a delta if it is in the set and beyond the heads
pub contains-beyond : (t : Edits) (hs : List Head) (e : Edit) → contains (beyond t hs) e ≡ (contains t e && is_beyond hs e)
contains-beyond t hs e = contains-retain t (is_beyond hs) e (λ x same. ap (is_beyond hs) (sym (edit_exact e x same)))

-- each edit of a delta is in the set
pub from_set : (t : Edits) (hs : List Head) (e : Edit) → contains (beyond t hs) e ≡ true → contains t e ≡ true
from_set t hs e i = (and_parts (contains t e) (is_beyond hs e) (sym (contains-beyond t hs e) ∙ i)).0

-- a delta of winners holds only winners
pub winners-beyond : (t : Edits) (hs : List Head) → winners t ≡ t → winners (beyond t hs) ≡ beyond t hs
winners-beyond t hs won = same_elements edit_total edit_exact _ _
    (λ e top. ((winners_laws.members (beyond t hs) e).0 top).inside)
    (λ e inside.
    let top : IsTop is_exceeded_by t e = (winners_laws.members t e).0 (ap (λ (s : Edits). contains s e) won ∙ from_set t hs e inside) in
    (winners_laws.members (beyond t hs) e).1 (record { inside = inside; none = λ f i. top.none f (from_set t hs f i) }))

-- the edits of a list that are beyond heads are the delta of its set
pub from_list-beyond : (es : List Edit) (hs : List Head) → from_list (filter (is_beyond hs) es) ≡ beyond (from_list es) hs
from_list-beyond es hs = same_set edit_total edit_exact _ _ (λ e.
    contains-from_list edit_total (filter (is_beyond hs) es) e ∙ any-filter (is_beyond hs) es e
    ∙ ap (λ b. b && is_beyond hs e) (sym (contains-from_list edit_total es e)) ∙ sym (contains-beyond (from_list es) hs e))

-- all edits of a set are beyond its own heads
pub beyond-own : (s : Edits) → beyond s (heads s) ≡ s
beyond-own s = same_elements edit_total edit_exact _ s (from_set s (heads s)) (λ e inside.
    let listed = sym (contains-items s e) ∙ inside in
    let reached = any_by edit_total edit_exact (λ g. is_head_reached e (head_of g)) (items s) e listed (own_head e) in
    contains-beyond s (heads s) e ∙ and_from _ _ inside (or_right (not (list_any (is_head_at e) (heads s))) _ (any-heads (is_head_reached e) (items s) ∙ reached)))
  where
    own_head : (e : Edit) → is_head_reached e (head_of e) ≡ true
    own_head e = and_from _ _ (ap is_eq (tied_itself number_triple_total (edit_place e))) (not_from_false _ (ap is_lt (tied_itself number_pair_total (stamp_key e.stamp))))

-- a delta fits a plan if its set does
pub in_range-beyond : (p : Plan) (t : Edits) (hs : List Head) → AreInRange p t → AreInRange p (beyond t hs)
in_range-beyond p t hs fits e inside = fits e (from_set t hs e inside)
