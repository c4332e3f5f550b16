-- If more edits reach a replica, their greatest count does not fall.
use Rattle.std.proofs.Common.{◌≡◌, ◌≤◌, true, [], ◌∷◌, ap, ◌∙◌}
use Rattle.std.specs.Cmp.{tied_itself}
use Rattle.std.specs.Ordering.{is_eq}
use Rattle.std.proofs.lemmas.Bool.{or_left, or_right}
use Rattle.lattice_core.specs.Sets.{contains, union}
use Rattle.lattice_core.proofs.SetElements.{contains-from_list, contains-union}
use Rattle.road_scenario.specs.Counts.{greatest_count}
use Rattle.road_scenario.specs.Edits.{Edits}
use Rattle.road_scenario.specs.Instances.EditOrder.{edit_total}
use Rattle.road_scenario.specs.declared.edit.Edit.{Edit}
use Rattle.road_scenario.proofs.GreatestCounts.{greatest_of_part, upper_in}
use Rattle.road_replica.specs.Replicas.{single_edit}

-- the greatest count of one part of a union is at most that of the union
pub greatest_count_of_union : (s t : Edits) → greatest_count s ≤ greatest_count (union s t)
greatest_count_of_union s t =
    greatest_of_part s (union s t) (λ e i. contains-union edit_total s t e ∙ or_left _ _ i)

-- so is the count of an edit that was united with a set
pub count_of_single : (s : Edits) (e : Edit) → e.stamp.count ≤ greatest_count (union s (single_edit e))
count_of_single s e =
    let itself : contains (single_edit e) e ≡ true = contains-from_list edit_total (e ∷ []) e ∙ or_left _ _ (ap is_eq (tied_itself edit_total e)) in
    upper_in (union s (single_edit e)) e (contains-union edit_total s (single_edit e) e ∙ or_right (contains s e) _ itself)
