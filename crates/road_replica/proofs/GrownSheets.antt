-- Extending a sheet by edits only is taking them, and extending it by steps only is advancing.
use Rattle.std.proofs.Common.{◌≡◌, ◌≤◌, ◌∙◌, ℕ, max, min, ap, sym, subst, arith, refl, List, [], ◌∷◌, ◌++◌, map, true, None}
use Rattle.std.specs.Prelude.{cond, not}
use Rattle.std.specs.Cmp.Lexicographic.{options_equiv}
use Rattle.std.specs.List.{filter, reduce}
use Rattle.std.proofs.lemmas.Cmp.{nat_eq_equiv}
use Rattle.lattice_core.specs.Map.{is_empty}
use Rattle.lattice_core.specs.Sets.{empty, from_list, items, union}
use Rattle.lattice_core.proofs.SetElements.{items-empty}
use Rattle.road_plan.specs.declared.limits.TheConstants.{GREATEST_HORIZON}
use Rattle.road_scenario.proofs.EditRanges.{in_range-join}
use Rattle.road_scenario.specs.Edits.{Edits, edit_cmp, edit_place}
use Rattle.road_scenario.specs.Faults.{AreInRange}
use Rattle.road_scenario.specs.Touched.{has_other_number, put_number_at, first_touched_step}
use Rattle.road_scenario.specs.Winners.{AreWinners, has_no_edit, join, winners}
use Rattle.road_scenario.specs.Instances.EditOrder.{winners_laws}
use Rattle.road_scenario.specs.Instances.JoinedWinners.{join_laws}
use Rattle.road_scenario.specs.declared.edit.Edit.{Edit}
use Rattle.road_scenario.proofs.JoinedRegisters.{winners-single}
use Rattle.road_scenario.proofs.NoEdits.{winners-empty}
use Rattle.road_sheet.specs.Commands.{Advance, Take, sheet_after}
use Rattle.road_sheet.specs.Sheets.{Sheet, IsSheet}
use Rattle.road_rewind.specs.Growth.{grown_sheet, most_steps, touched_step, TicksAtMost}
use Rattle.road_replica.specs.Replicas.{most_steps_taking, single_edit}

pub max-zero : (n : ℕ) → max n 0 ≡ n
max-zero n = omega arith

no_edit : has_no_edit empty ≡ true
no_edit = ap is_empty (items-empty edit_cmp)

-- joining no edits to winners gives the same winners
no_edit-join : (edits : Edits) → AreWinners edits → join empty edits ≡ edits
no_edit-join edits wins = join_laws.neutral empty edits winners-empty wins no_edit

join-no_edit : (edits : Edits) → AreWinners edits → join edits empty ≡ edits
join-no_edit edits wins = join_laws.commutative edits empty wins winners-empty ∙ no_edit-join edits wins

-- the scenario of one edit, made from one without edits
pub scenario_of_one : (none taken : Edits) (edit made : Edit) → none ≡ empty → taken ≡ join none (from_list (edit ∷ [])) → edit ≡ made → taken ≡ single_edit made
scenario_of_one none taken edit made is joined same =
    joined ∙ ap (λ (edits : Edits). join edits (single_edit edit)) is ∙ no_edit-join (single_edit edit) (winners-single edit) ∙ ap single_edit same

pub grown_by_edits : (s : Sheet) (edits : Edits) → grown_sheet s edits 0 ≡ sheet_after (Take edits) s
grown_by_edits s edits = ap (λ (h : ℕ). let t : Sheet = record { plan = s.plan; edits = join s.edits edits; horizon = h } in t) (max-zero s.horizon)

pub grown_by_steps : (s : Sheet) (to : ℕ) → IsSheet s → grown_sheet s empty to ≡ sheet_after (Advance to) s
grown_by_steps s to is = ap (λ (edits : Edits). let t : Sheet = record { plan = s.plan; edits = edits; horizon = max s.horizon to } in t) (join-no_edit s.edits is.winners)

-- a sheet stays a sheet when it is extended
pub grown_is_sheet : (s : Sheet) (edits : Edits) (to : ℕ) → IsSheet s → AreInRange s.plan edits → to ≤ GREATEST_HORIZON → IsSheet (grown_sheet s edits to)
grown_is_sheet s edits to is fits within = record {
  plan_within = is.plan_within;
  winners = winners_laws.of_tops (union s.edits edits);
  in_range = in_range-join s.plan s.edits edits is.in_range fits;
  within_limit = let old = is.within_limit in omega (arith, within, old);
}

-- joining all edits of a list to winners gives the same as joining the list's winners
pub join-winners : (s edits : Edits) → AreWinners s → join s (winners edits) ≡ join s edits
join-winners s edits wins = sym (winners_laws.of_union s edits ∙ ap (λ (x : Edits). join x (winners edits)) wins)

-- taking edits computes no more steps than extending by them
pub few_steps_taking : (s : Sheet) (taken edits : Edits) (meter later : ℕ) → taken ≡ edits → TicksAtMost (most_steps s.horizon (max s.horizon 0) (touched_step s taken)) meter later → TicksAtMost (most_steps_taking s edits) meter later
few_steps_taking s taken edits meter later same few =
    subst (λ (x : Edits). TicksAtMost (most_steps_taking s x) meter later) same
    (subst (λ h. TicksAtMost (most_steps s.horizon h (touched_step s taken)) meter later) (max-zero s.horizon) few)

-- ---- joining no edit touches no step

none_differs : (es fs : List Edit) → filter (has_other_number es es) fs ≡ []
none_differs es [] = refl
none_differs es (f ∷ fs) =
    let rest = filter (has_other_number es es) fs in
    ap (λ equal. cond (not equal) (f ∷ rest) rest) ((options_equiv nat_eq_equiv).refl (put_number_at es (edit_place f))) ∙ none_differs es fs

none_touched : (edits : Edits) → first_touched_step edits edits ≡ None
none_touched edits =
    let es = items (winners edits) in
    ap (λ (found : List Edit). reduce min (map (λ e. e.step) found)) (none_differs es (es ++ es))

pub no_edit_touches : (s : Sheet) → IsSheet s → touched_step s empty ≡ None
no_edit_touches s is = ap (first_touched_step s.edits) (join-no_edit s.edits is.winners) ∙ none_touched s.edits
