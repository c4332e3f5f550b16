-- The first faulty edit of shares, one share after another.
use Rattle.std.proofs.Common.{◌≡◌, ◌∙◌, ◌+◌, ◌<◌, ℕ, List, [], ◌∷◌, ◌++◌, add-one, ap, drop, get_or, length, refl, sym, Option, Some, None}
use Rattle.std.specs.Prelude.{Vec}
use Rattle.std.specs.Option.{option_or}
use Rattle.std.specs.declared.alloc.Global.{Global}
use Rattle.std.proofs.Math.Seq.{drop-cons}
use Rattle.road_plan.specs.Plan.{Plan}
use Rattle.road_scenario.specs.declared.edit.Edit.{Edit}
use Rattle.road_replica.specs.Crowds.{edits_of, shares_of}
use Rattle.road_replica.specs.Refusals.{import_fault, imported_edit_fault}
use Rattle.road_replica.specs.declared.faults.ReplicaFault.{ReplicaFault}

option_or-assoc : (x y z : Option ReplicaFault) → option_or (option_or x y) z ≡ option_or x (option_or y z)
option_or-assoc None y z = refl
option_or-assoc (Some f) y z = refl

import_fault-append : (plan : Plan) (edits more : List Edit) → import_fault plan (edits ++ more) ≡ option_or (import_fault plan edits) (import_fault plan more)
import_fault-append plan [] more = refl
import_fault-append plan (e ∷ es) more =
    ap (λ (x : Option ReplicaFault). option_or (imported_edit_fault plan e) x) (import_fault-append plan es more)
    ∙ sym (option_or-assoc (imported_edit_fault plan e) (import_fault plan es) (import_fault plan more))

-- the first fault of a share and the shares after it is that of the share, or else that of the shares after it
pub fault_of_rest : (plan : Plan) (vecs : List (Vec Edit Global)) (i : ℕ) (share : Vec Edit Global) → i < length vecs → share ≡ get_or vecs i share
    → import_fault plan (edits_of (shares_of (drop i vecs))) ≡ option_or (import_fault plan share.items) (import_fault plan (edits_of (shares_of (drop (i + 1) vecs))))
fault_of_rest plan vecs i share within is =
    let rest : drop i vecs ≡ share ∷ drop (i + 1) vecs = drop-cons vecs i share within ∙ (λ k. sym is k ∷ drop (sym (add-one i) k) vecs) in
    ap (λ (l : List (Vec Edit Global)). import_fault plan (edits_of (shares_of l))) rest
    ∙ import_fault-append plan share.items (edits_of (shares_of (drop (i + 1) vecs)))
