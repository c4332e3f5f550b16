-- The replica has no named cause to refuse the writes of a crowd whose shares and step are accepted, and a crew of one
-- loses no worker. So such a write is refused only for a full journal or out of memory.
use Rattle.std.proofs.Common.{◌≡◌, ℕ, zero, suc, ◌<◌, Bool, true, false, List, [], ◌∷◌, ◌++◌, length, Option, None, Some, inl, inr, refl, ap, subst, arith}
use Rattle.std.specs.Prelude.{if◌then◌else◌, Vec}
use Rattle.std.specs.List.{AllByRecursion, slice_index_or}
use Rattle.std.specs.Option.{option_map, option_or}
use Rattle.std.specs.declared.alloc.Global.{Global}
use Rattle.road_plan.specs.Plan.{Plan}
use Rattle.road_scenario.specs.declared.edit.Edit.{Edit}
use Rattle.road_replica.specs.Crowds.{edits_of, shares_fault, shares_of}
use Rattle.road_replica.specs.Refusals as refusals
use Rattle.road_replica.specs.Refusals.{advance_fault, received_edit_fault, import_fault, imported_edit_fault, take_fault}
use Rattle.road_replica.specs.Replicas.{Replica, single_edit}
use Rattle.road_replica.specs.declared.faults.ReplicaFault.{ReplicaFault}
use Rattle.road_replica.specs.declared.faults.ReplicaFault.TheVariants as causes
use Rattle.road_scenario.proofs.EditRanges.{in_range-faultless, in_range-one}
use Rattle.road_scenario.specs.Faults.{fault_of_edit}
use Rattle.road_scenario.specs.declared.faults.EditFault.{EditFault}
use Rattle.road_sessions.specs.declared.entry.Entry.{Entry}
use Rattle.road_sessions.specs.declared.faults.WriteFault.{WriteFault}
use Rattle.road_sessions.specs.declared.faults.WriteFault.TheVariants.{JournalFull, Replica as OfReplica}
use Rattle.road_sessions.specs.declared.wish.Wish.{Wish}
use Rattle.road_sessions.specs.Journals.{replay}
use Rattle.road_sessions.specs.Sessions.{IsRefusedThere}
use Rattle.road_sessions.specs.Writes.{IsWriteRefusal, gone_after_fault, wish_fault, write_fault}
use Rattle.road_sessions.proofs.Replays.{plan_kept}
use Rattle.road_crowd.specs.Private.Works.{AreAccepted, IsAccepted, IsFullOrNoMemory}

-- ---- a write without a named cause

-- the crew would have counted a refusal as `WorkersGone`, so the refusal is a different one
gone_is_counted : (fault : WriteFault) → 0 ≡ gone_after_fault fault 0 → fault ≡ OfReplica causes.WorkersGone → IsFullOrNoMemory fault
gone_is_counted fault same is =
    let counted : 0 ≡ gone_after_fault (OfReplica causes.WorkersGone) 0 = subst (λ (f : WriteFault). 0 ≡ gone_after_fault f 0) is same in
    absurd (omega (arith, counted))

by_cause : (full : Bool) (cause : Option ReplicaFault) (fault : WriteFault) → cause ≡ None → 0 ≡ gone_after_fault fault 0
    → IsWriteRefusal (if full then Some JournalFull else option_map OfReplica cause) fault → IsFullOrNoMemory fault
by_cause true cause fault none same is = inl is
by_cause false cause fault none same is =
    let plain : IsWriteRefusal None fault = subst (λ (o : Option ReplicaFault). IsWriteRefusal (option_map OfReplica o) fault) none is in
    elim plain as (λ _. IsFullOrNoMemory fault) [
      | inl gone ↦ gone_is_counted fault same gone
      | inr memory ↦ inr memory
    ]

pub refused_there : (limit : ℕ) (r : Replica) (wish : Wish) (seen : List Entry) (fault : WriteFault) (meter after : ℕ)
    → ((q : Replica) → q.sheet.plan ≡ r.sheet.plan → wish_fault wish q ≡ None) → 0 ≡ gone_after_fault fault 0 → IsRefusedThere limit r wish seen fault meter after → IsFullOrNoMemory fault
refused_there limit r wish seen fault meter after none same there =
    by_cause _ (wish_fault wish (replay r there.front)) fault (none (replay r there.front) (plan_kept r there.front)) same there.refused.refused

-- ---- the edit of a share, as a scenario of one edit

none_of_both : (x y : Option ReplicaFault) → option_or x y ≡ None → (x ≡ None) × (y ≡ None)
none_of_both None y is = (refl, is)
none_of_both (Some f) y is = absurd (cc is)

none_mapped : (x : Option EditFault) → option_map received_edit_fault x ≡ None → x ≡ None
none_mapped None is = refl
none_mapped (Some f) is = absurd (cc is)

pub taken_alone : (plan : Plan) (edit : Edit) → imported_edit_fault plan edit ≡ None → take_fault plan (single_edit edit) ≡ None
taken_alone plan edit none =
    let fits : fault_of_edit plan edit ≡ None = none_mapped (fault_of_edit plan edit) (none_of_both _ _ none).0 in
    ap (λ (x : Option EditFault). option_map received_edit_fault x) (in_range-faultless plan (single_edit edit) (in_range-one plan edit fits))

pub edit_of_share : (plan : Plan) (share : List Edit) (i : ℕ) (d : Edit) → import_fault plan share ≡ None → i < length share → imported_edit_fault plan (slice_index_or share i d) ≡ None
edit_of_share plan [] i d none below = absurd (omega arith)
edit_of_share plan (e ∷ es) zero d none below = (none_of_both _ _ none).0
edit_of_share plan (e ∷ es) (suc i) d none below = edit_of_share plan es i d (none_of_both _ _ none).1 (omega arith)

-- ---- the shares

none_in_parts : (plan : Plan) (edits more : List Edit) → import_fault plan (edits ++ more) ≡ None → (import_fault plan edits ≡ None) × (import_fault plan more ≡ None)
none_in_parts plan [] more none = (refl, none)
none_in_parts plan (e ∷ es) more none =
    let first = none_of_both (imported_edit_fault plan e) (import_fault plan (es ++ more)) none in
    let rest = none_in_parts plan es more first.1 in
    ((λ i. option_or (first.0 i) (rest.0 i)), rest.1)

accepted_by : (plan : Plan) (shares : List (List Edit)) (to : ℕ) → import_fault plan (edits_of shares) ≡ None → advance_fault to ≡ None → AreAccepted plan to shares
accepted_by plan [] to none within = tt
accepted_by plan (share ∷ shares) to none within =
    let parts = none_in_parts plan share (edits_of shares) none in
    ((parts.0, within), accepted_by plan shares to parts.1 within)

-- the shares of an accepted crowd are accepted one by one
pub all_accepted : (plan : Plan) (shares : List (List Edit)) (to : ℕ) → shares_fault plan shares to ≡ None → AreAccepted plan to shares
all_accepted plan shares to none =
    let both = none_of_both (import_fault plan (edits_of shares)) (advance_fault to) none in accepted_by plan shares to both.0 both.1

-- accepted shares, split into the last one and the others
pub accepted_last : (plan : Plan) (to : ℕ) (shares : List (List Edit)) (share : List Edit) → AreAccepted plan to (shares ++ share ∷ []) → AreAccepted plan to shares × IsAccepted plan to share
accepted_last plan to [] share all = (tt, all.0)
accepted_last plan to (first ∷ shares) share all = let rest = accepted_last plan to shares share all.1 in ((all.0, rest.0), rest.1)
