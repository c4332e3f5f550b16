-- The first faulty edit of an import.
use Rattle.std.proofs.Common.{◌≡◌, ◌∙◌, ℕ, ap, refl, Bool, true, false, List, [], ◌∷◌, Option, Some, None}
use Rattle.std.specs.Prelude.{nat_lt, if◌then◌else◌, IfSome}
use Rattle.std.specs.Option.{option_or, option_map}
use Rattle.road_plan.specs.Plan.{Plan}
use Rattle.road_scenario.specs.Faults.{fault_of_edit, first_fault}
use Rattle.road_scenario.specs.declared.edit.Edit.{Edit}
use Rattle.road_scenario.specs.declared.faults.EditFault.{EditFault}
use Rattle.road_scenario.specs.declared.faults.EditFault.TheVariants.{NoObject, Step, ValueOutOfRange, Count}
use Rattle.road_plan.specs.declared.limits.TheConstants.{FIRST_IMPORT_NUMBER}
use Rattle.road_replica.specs.Refusals.{received_edit_fault, imported_edit_fault, import_fault, gone_after_fault}
use Rattle.road_replica.specs.declared.faults.ReplicaFault.{ReplicaFault}
use Rattle.road_replica.specs.declared.faults.ReplicaFault.TheVariants.{Insider}

-- if neither of two causes applies, the first does not and the second does not
pub none_of_both : (x y : Option ReplicaFault) → option_or x y ≡ None → (x ≡ None) × (y ≡ None)
none_of_both None y h = (refl, h)
none_of_both (Some f) y h = cc

unmapped : (x : Option EditFault) → option_map received_edit_fault x ≡ None → x ≡ None
unmapped None h = refl
unmapped (Some f) h = cc

-- an import without a refused edit has no faulty edit
pub no_fault_imported : (plan : Plan) (edits : List Edit) → import_fault plan edits ≡ None → first_fault plan edits ≡ None
no_fault_imported plan [] h = refl
no_fault_imported plan (e ∷ es) h =
    let both = none_of_both (imported_edit_fault plan e) (import_fault plan es) h in
    let here = none_of_both (option_map received_edit_fault (fault_of_edit plan e)) _ both.0 in
    ap (λ x. option_or x (first_fault plan es)) (unmapped (fault_of_edit plan e) here.0) ∙ no_fault_imported plan es both.1

-- ---- no worker is lost by a named cause

-- after a refusal for this cause a crew has returned `WorkersGone` as often as before
abbrev LosesNone : ℕ → Option ReplicaFault → Type 0
LosesNone n cause = IfSome cause (λ fault. n ≡ gone_after_fault fault n)

either : (n : ℕ) (x y : Option ReplicaFault) → LosesNone n x → LosesNone n y → LosesNone n (option_or x y)
either n None y p q = q
either n (Some f) y p q = p

arrived : (n : ℕ) (x : Option EditFault) → LosesNone n (option_map received_edit_fault x)
arrived n None = tt
arrived n (Some NoObject) = refl
arrived n (Some Step) = refl
arrived n (Some ValueOutOfRange) = refl
arrived n (Some Count) = refl

insider : (n : ℕ) (b : Bool) → LosesNone n (if b then Some Insider else None)
insider n true = refl
insider n false = tt

pub refused_import_loses_none : (plan : Plan) (edits : List Edit) (n : ℕ) → LosesNone n (import_fault plan edits)
refused_import_loses_none plan [] n = tt
refused_import_loses_none plan (e ∷ es) n =
    either n (imported_edit_fault plan e) (import_fault plan es)
    (either n (option_map received_edit_fault (fault_of_edit plan e)) _ (arrived n (fault_of_edit plan e)) (insider n (nat_lt e.stamp.number FIRST_IMPORT_NUMBER)))
    (refused_import_loses_none plan es n)
