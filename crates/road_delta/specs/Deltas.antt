-- Deltas: the heads that a replica sends, and the edits that another replica then sends back.
use Rattle.std.specs.Prelude.{◌≡◌, not, ◌||◌, ◌&&◌, Bool, true, T, List, map}
use Rattle.std.specs.List.{list_any}
use Rattle.std.specs.Ordering.{is_eq, is_lt}
use Rattle.lattice_core.specs.Sets.{contains, is_rising, items, retain}
use Rattle.road_scenario.specs.declared.edit.Edit.{Edit}
use Rattle.road_scenario.specs.Edits.{Edits, Place, edit_place, object_place}
use Rattle.road_scenario.specs.Edits.{number_triple_cmp, number_pair_cmp, stamp_key}
use Rattle.road_delta.specs.declared.heads.Head.{Head}

-- the head of an edit: its object, its step and its stamp
abbrev pub head_of : Edit → Head
head_of e = record { object = e.object; step = e.step; stamp = e.stamp }

-- the heads of a set of edits, by object and step
abbrev pub heads : Edits → List Head
heads edits = map head_of (items edits)

-- the place of a head
abbrev pub head_place : Head → Place
head_place h = object_place h.object h.step

-- heads rise strictly by object and step: each object and step has at most one
abbrev pub AreRisingHeads : List Head → Type 0
AreRisingHeads hs = T (is_rising (λ g h. number_triple_cmp (head_place g) (head_place h)) hs)

-- whether a head has an edit's object and step
abbrev pub is_head_at : Edit → Head → Bool
is_head_at e h = is_eq (number_triple_cmp (edit_place e) (head_place h))

-- whether a head's stamp is greater than an edit's
abbrev pub is_stamp_above : Edit → Head → Bool
is_stamp_above e h = is_lt (number_pair_cmp (stamp_key e.stamp) (stamp_key h.stamp))

-- whether an edit is beyond heads: no head has its object and step, or the head there has a smaller or equal stamp
abbrev pub is_beyond : List Head → Edit → Bool
is_beyond hs e = not (list_any (is_head_at e) hs) || list_any (λ h. is_head_at e h && not (is_stamp_above e h)) hs

-- the edits of a set that are beyond heads: a delta
abbrev pub beyond : Edits → List Head → Edits
beyond edits hs = retain edits (is_beyond hs)

-- an edit is behind a set: an edit of the set has the same object and step, and a greater stamp
pub record IsBehind (edits : Edits) (e : Edit) : Type 0 where
  pub newer : Edit
  pub held : contains edits newer ≡ true
  pub same_place : is_head_at e (head_of newer) ≡ true
  pub smaller_stamp : is_stamp_above e (head_of newer) ≡ true
