-- Why crowds are refused: each cause that may apply to a crowd has an answer.
use Rattle.std.proofs.Common.{◌≡◌, ◌∙◌, ℕ, List, ◌∷◌, [], Bool, true, false, if◌then◌else◌, Option, Some, None, refl, ap, sym}
use Rattle.std.specs.Prelude.{IfNone, nat_lt}
use Rattle.std.specs.Option.{option_and_then, option_map, option_or}
use Rattle.road_plan.specs.Plan.{Plan}
use Rattle.road_plan.specs.declared.limits.TheConstants.{FIRST_IMPORT_NUMBER, GREATEST_HORIZON}
use Rattle.road_scenario.specs.Faults.{fault_of_edit}
use Rattle.road_scenario.specs.declared.edit.Edit as edit
use Rattle.road_scenario.specs.declared.faults.EditFault.{EditFault}
use Rattle.road_scenario.specs.declared.faults.EditFault.TheVariants as edit_faults
use Rattle.road_replica.specs.Crowds.{edits_of, shares_fault}
use Rattle.road_replica.specs.Refusals.{advance_fault, received_edit_fault, import_fault, imported_edit_fault}
use Rattle.road_replica.specs.declared.faults.ReplicaFault.{ReplicaFault}
use Rattle.road_replica.specs.declared.faults.ReplicaFault.TheVariants.{Horizon, Insider}
use Rattle.road_format.specs.declared.refusal.Refusal.{Refusal}
use Rattle.road_commands.specs.Laboratory.{replica_refusal}

-- if a cause has no answer, there is no cause
abbrev IsAnswered : Option ReplicaFault → Type 0
IsAnswered cause = option_and_then replica_refusal cause ≡ None → cause ≡ None

either_answered : (a b : Option ReplicaFault) → IsAnswered a → IsAnswered b → IsAnswered (option_or a b)
either_answered (Some fault) b h k = h
either_answered None b h k = k

arrived_answered : (fault : Option EditFault) → IsAnswered (option_map received_edit_fault fault)
arrived_answered None none = refl
arrived_answered (Some edit_faults.NoObject) none = absurd (cc)
arrived_answered (Some edit_faults.Step) none = absurd (cc)
arrived_answered (Some edit_faults.ValueOutOfRange) none = absurd (cc)
arrived_answered (Some edit_faults.Count) none = absurd (cc)

insider_answered : (is : Bool) → IsAnswered (if is then Some Insider else None)
insider_answered true none = absurd (cc)
insider_answered false none = refl

horizon_answered : (is : Bool) → IsAnswered (if is then Some Horizon else None)
horizon_answered true none = absurd (cc)
horizon_answered false none = refl

import_answered : (plan : Plan) (edits : List edit.Edit) → IsAnswered (import_fault plan edits)
import_answered plan [] none = refl
import_answered plan (e ∷ edits) none =
    let arrived = arrived_answered (fault_of_edit plan e) in
    let insider = insider_answered (nat_lt e.stamp.number FIRST_IMPORT_NUMBER) in
    let one = either_answered (option_map received_edit_fault (fault_of_edit plan e)) (if nat_lt e.stamp.number FIRST_IMPORT_NUMBER then Some Insider else None) arrived insider in
    either_answered (imported_edit_fault plan e) (import_fault plan edits) one (import_answered plan edits) none

shares_answered : (plan : Plan) (shares : List (List edit.Edit)) (to : ℕ) → IsAnswered (shares_fault plan shares to)
shares_answered plan shares to =
    either_answered (import_fault plan (edits_of shares)) (advance_fault to) (import_answered plan (edits_of shares)) (horizon_answered (nat_lt GREATEST_HORIZON to))

-- a cause without an answer never applies to shares
pub fault_unanswered : (plan : Plan) (shares : List (List edit.Edit)) (to : ℕ) (fault : ReplicaFault) (answer : Option Refusal) → shares_fault plan shares to ≡ Some fault → answer ≡ replica_refusal fault
    → IfNone answer (shares_fault plan shares to ≡ None)
fault_unanswered plan shares to fault None is given = shares_answered plan shares to (ap (option_and_then replica_refusal) is ∙ sym given)
fault_unanswered plan shares to fault (Some refusal) is given = tt
