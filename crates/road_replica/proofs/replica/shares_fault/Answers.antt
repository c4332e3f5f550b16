-- Of the shares that are left, the first is checked first.
use Rattle.std.proofs.Common.{◌≡◌, ◌∙◌, ◌+◌, ap, arith, drop, sym, Option, None, Some}
use Rattle.std.specs.Option.{option_or}
use Rattle.road_replica.specs.Crowds.{edits_of, shares_of}
use Rattle.road_replica.specs.Refusals.{advance_fault, import_fault}
use Rattle.road_replica.specs.declared.faults.ReplicaFault.{ReplicaFault}
use Rattle.road_replica.proofs.SharedEdits.{fault_of_rest}
use Rattle.road_replica.proofs.replica.shares_fault.Goals as goal

pub returns-in-Some : goal.returns-in-Some
returns-in-Some c =
    let plan = c.args.plan.now in
    let left = fault_of_rest plan c.args.shares.now c.loop-share.share-index c.share-item.result (omega arith) c.share-item.is in
    let here : import_fault plan c.share-item.result.items ≡ Some c.in-Some.fault = ap (import_fault plan) (sym c.as_slice.ensures.value) ∙ sym c.import_fault.ensures ∙ c.in-Some.is in
    let all : import_fault plan (edits_of (shares_of c.args.shares.now)) ≡ Some c.in-Some.fault =
    sym c.loop-share.invariant ∙ left ∙ ap (λ (x : Option ReplicaFault). option_or x (import_fault plan (edits_of (shares_of (drop (c.loop-share.share-index + 1) c.args.shares.now))))) here in
    ap (λ (x : Option ReplicaFault). option_or x (advance_fault c.args.to)) (sym all)

pub loop-share-preserved : goal.loop-share-preserved
loop-share-preserved c =
    let plan = c.args.plan.now in
    let left = fault_of_rest plan c.args.shares.now c.loop-share.share-index c.share-item.result (omega arith) c.share-item.is in
    let here : import_fault plan c.share-item.result.items ≡ None = ap (import_fault plan) (sym c.as_slice.ensures.value) ∙ sym c.import_fault.ensures ∙ c.in_default.is in
    sym (left ∙ ap (λ (x : Option ReplicaFault). option_or x (import_fault plan (edits_of (shares_of (drop (c.loop-share.share-index + 1) c.args.shares.now))))) here) ∙ c.loop-share.invariant
