-- Extensions of a replica's sheet as writes, and how many steps an accepted write computes.
use Rattle.std.proofs.Common.{◌≡◌, ◌-◌, ◌∙◌, ℕ, Option, None, ap, arith, max, refl, subst, sym}
use Rattle.std.specs.Prelude.{IfErr, IsErrAnd, OnErr, OnOk, Result}
use Rattle.std.specs.declared.result.Result.TheVariants.{Err, Ok}
use Rattle.lattice_core.specs.Sets.{empty}
use Rattle.road_scenario.specs.Edits.{Edits}
use Rattle.road_scenario.specs.Touched.{first_touched_step}
use Rattle.road_scenario.specs.Winners.{join}
use Rattle.road_sheet.specs.Commands.{Advance, SheetCommand, Take}
use Rattle.road_sheet.specs.Drafts.{draft_start}
use Rattle.road_sheet.specs.Sheets.{IsSheet, Sheet}
use Rattle.road_rewind.proofs.StepCounts.{few_steps, start_at_horizon}
use Rattle.road_rewind.specs.Growth.{TicksAtMost, grown_sheet, kept_step, meter_after, most_steps, touched_step}
use Rattle.road_replica.proofs.GrownSheets.{few_steps_taking, grown_by_edits, grown_by_steps, max-zero, no_edit_touches}
use Rattle.road_replica.specs.Refusals.{IsWriteRefusal}
use Rattle.road_replica.specs.Replicas.{Replica}
use Rattle.road_replica.specs.Writes.{IsAccepted, IsRefused, IsWrite, most_steps_of_command, steps_of_command}
use Rattle.road_replica.specs.declared.faults.ReplicaFault.{ReplicaFault}

-- a replica with another sheet
abbrev with_sheet : Replica → Sheet → Replica
with_sheet r s = record r { sheet = s }

-- an accepted write counts no more steps than a refused one may
pub few_steps_of : (command : SheetCommand) (s : Sheet) (meter later : ℕ) → later ≡ meter_after meter (steps_of_command command s) → TicksAtMost (most_steps_of_command command s) meter later
few_steps_of (Take edits) s meter later is = record { ticks = steps_of_command (Take edits) s; few = few_steps s.horizon s.horizon (touched_step s edits); counted = is }
few_steps_of (Advance to) s meter later is = record { ticks = steps_of_command (Advance to) s; few = omega arith; counted = is }

-- a refusal that is passed on
pub handed_on : {A : Type 0} (command : SheetCommand) (cause : Option ReplicaFault) (result : Result A ReplicaFault) (fault : ReplicaFault) (r new : Replica) (meter later : ℕ)
    → IsErrAnd result (λ given. given ≡ fault) → IsRefused command cause fault r new meter later → IsWrite command cause result r new meter later
handed_on command cause (Ok x) fault r new meter later same is = absurd same
handed_on command cause (Err given) fault r new meter later same is = subst (λ f. IsRefused command cause f r new meter later) (sym same) is

-- extending by edits only is a write that takes them
pub joined_write : {A : Type 0} (r new : Replica) (edits : Edits) (result : Result A ReplicaFault) (meter later : ℕ)
    → OnOk result (new ≡ with_sheet r (grown_sheet r.sheet edits 0)) → IfErr result (IsWriteRefusal None) → OnErr result (new ≡ r)
    → OnOk result (later ≡ meter_after meter (max r.sheet.horizon 0 - draft_start r.sheet.horizon (kept_step r.sheet.horizon (touched_step r.sheet edits))))
    → TicksAtMost (most_steps r.sheet.horizon (max r.sheet.horizon 0) (touched_step r.sheet edits)) meter later
    → IsWrite (Take edits) None result r new meter later
joined_write r new edits (Ok x) meter later grown refused unchanged steps few = record {
  accepted = refl;
  after = grown ∙ ap (with_sheet r) (grown_by_edits r.sheet edits);
  steps = steps ∙ ap (λ h. meter_after meter (h - draft_start r.sheet.horizon (kept_step r.sheet.horizon (touched_step r.sheet edits)))) (max-zero r.sheet.horizon);
}
joined_write r new edits (Err fault) meter later grown refused unchanged steps few = record {
  refused = refused;
  unchanged = unchanged;
  named = λ some. absurd (some refl);
  few_steps = few_steps_taking r.sheet edits edits meter later refl few;
}

-- a write that takes some edits also takes other edits with the same result when joined in: if accepted
pub retaken_accepted : (r new : Replica) (taken edits : Edits) (cause : Option ReplicaFault) (meter later : ℕ)
    → join r.sheet.edits taken ≡ join r.sheet.edits edits → cause ≡ None → IsAccepted (Take taken) None r new meter later → IsAccepted (Take edits) cause r new meter later
retaken_accepted r new taken edits cause meter later same none write = record {
  accepted = none;
  after = write.after ∙ ap (λ (joined : Edits). with_sheet r (record r.sheet { edits = joined })) same;
  steps = write.steps ∙ ap (λ (joined : Edits). meter_after meter (r.sheet.horizon - draft_start r.sheet.horizon (kept_step r.sheet.horizon (first_touched_step r.sheet.edits joined)))) same;
}

-- if refused
pub retaken_refused : (r new : Replica) (taken edits : Edits) (cause : Option ReplicaFault) (fault : ReplicaFault) (meter later : ℕ)
    → join r.sheet.edits taken ≡ join r.sheet.edits edits → cause ≡ None → IsRefused (Take taken) None fault r new meter later → IsRefused (Take edits) cause fault r new meter later
retaken_refused r new taken edits cause fault meter later same none write = record {
  refused = subst (λ (c : Option ReplicaFault). IsWriteRefusal c fault) (sym none) write.refused;
  unchanged = write.unchanged;
  named = λ some. absurd (some none);
  few_steps = subst (λ (joined : Edits). TicksAtMost (most_steps r.sheet.horizon r.sheet.horizon (first_touched_step r.sheet.edits joined)) meter later) same write.few_steps;
}

-- whether it is accepted or refused
pub retaken : {A : Type 0} (r new : Replica) (taken edits : Edits) (cause : Option ReplicaFault) (result : Result A ReplicaFault) (meter later : ℕ)
    → join r.sheet.edits taken ≡ join r.sheet.edits edits → cause ≡ None → IsWrite (Take taken) None result r new meter later → IsWrite (Take edits) cause result r new meter later
retaken r new taken edits cause (Ok x) meter later same none write = retaken_accepted r new taken edits cause meter later same none write
retaken r new taken edits cause (Err fault) meter later same none write = retaken_refused r new taken edits cause fault meter later same none write

-- extending by steps only is a write that advances: if accepted
pub advanced_accepted : (r new : Replica) (edits : Edits) (to : ℕ) (cause : Option ReplicaFault) (meter later : ℕ)
    → edits ≡ empty → IsSheet r.sheet → cause ≡ None → new ≡ with_sheet r (grown_sheet r.sheet edits to)
    → later ≡ meter_after meter (max r.sheet.horizon to - draft_start r.sheet.horizon (kept_step r.sheet.horizon (touched_step r.sheet edits)))
    → IsAccepted (Advance to) cause r new meter later
advanced_accepted r new edits to cause meter later is sheet none grown steps =
    let h = r.sheet.horizon in
    let untouched : touched_step r.sheet edits ≡ None = ap (touched_step r.sheet) is ∙ no_edit_touches r.sheet sheet in record {
      accepted = none;
      after = grown ∙ ap (with_sheet r) (ap (λ (es : Edits). grown_sheet r.sheet es to) is ∙ grown_by_steps r.sheet to sheet);
      steps = steps ∙ ap (λ start. meter_after meter (max h to - start)) (ap (λ touched. draft_start h (kept_step h touched)) untouched ∙ start_at_horizon h h refl);
    }

-- if refused
pub advanced_refused : (r new : Replica) (edits : Edits) (to : ℕ) (cause : Option ReplicaFault) (fault : ReplicaFault) (meter later : ℕ)
    → edits ≡ empty → IsSheet r.sheet → cause ≡ None → IsWriteRefusal None fault → new ≡ r
    → TicksAtMost (most_steps r.sheet.horizon (max r.sheet.horizon to) (touched_step r.sheet edits)) meter later
    → IsRefused (Advance to) cause fault r new meter later
advanced_refused r new edits to cause fault meter later is sheet none refused unchanged few =
    let untouched : touched_step r.sheet edits ≡ None = ap (touched_step r.sheet) is ∙ no_edit_touches r.sheet sheet in record {
      refused = subst (λ (c : Option ReplicaFault). IsWriteRefusal c fault) (sym none) refused;
      unchanged = unchanged;
      named = λ some. absurd (some none);
      few_steps = subst (λ touched. TicksAtMost (most_steps r.sheet.horizon (max r.sheet.horizon to) touched) meter later) untouched few;
    }
