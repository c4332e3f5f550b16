-- How often a crew has returned `WorkersGone`, from call to call.
use Rattle.std.proofs.Common.{◌≡◌, ℕ, Bool, true, false, Result, Ok, Err, inl, inr, refl, sym, subst, ◌∙◌}
use Rattle.std.specs.Prelude.{IfErr}
use Rattle.road_commands.specs.Laboratory.{gone_after_command}
use Rattle.road_workers.specs.declared.faults.CrewFault.{CrewFault}
use Rattle.road_workers.specs.declared.faults.CrewFault.TheVariants as crew_faults
use Rattle.road_serve.specs.Faults.{CountsGone, crew_fault, early_fault, gone_after_call}
use Rattle.road_serve.specs.declared.faults.EarlyEnd.{EarlyEnd}
use Rattle.road_serve.specs.declared.faults.EarlyEnd.TheVariants as ends
use Rattle.road_serve.specs.declared.faults.ServeFault.{ServeFault}
use Rattle.road_serve.specs.declared.faults.ServeFault.TheVariants as faults

-- a command that is not answered; if it was a crowd, there is a crowd among the lines
pub unanswered_counts : (A : Type 0) (fault : CrewFault) (held crowd : Bool) (before after : ℕ) → (held ≡ true → crowd ≡ true) → after ≡ gone_after_command {A = A} (Err fault) held before
    → CountsGone (crew_fault fault) crowd before after
unanswered_counts A crew_faults.OutOfMemory held crowd before after there counts = counts
unanswered_counts A crew_faults.WorkersGone true crowd before after there counts = inr (counts, there refl)
unanswered_counts A crew_faults.WorkersGone false crowd before after there counts = inl counts

-- a call that uses no crew
pub counts_none : {A : Type 0} (result : Result A ServeFault) (crowd : Bool) (before after : ℕ) → ((n : ℕ) → gone_after_call result n ≡ n) → after ≡ before → IfErr result (λ fault. CountsGone fault crowd before after)
counts_none (Ok done) crowd before after no_crew same = tt
counts_none (Err faults.WorkersGone) crowd before after no_crew same = inl (same ∙ sym (no_crew before))
counts_none (Err faults.BadPlan) crowd before after no_crew same = same
counts_none (Err faults.OutOfMemory) crowd before after no_crew same = same
counts_none (Err faults.Write) crowd before after no_crew same = same
counts_none (Err faults.Read) crowd before after no_crew same = same
counts_none (Err faults.TooMany) crowd before after no_crew same = same

-- a run that is over early used no crew for that
pub early_counts : (end : EarlyEnd) (crowd : Bool) (before after : ℕ) → after ≡ before → CountsGone (early_fault end) crowd before after
early_counts ends.BadPlan crowd before after same = same
early_counts ends.TooMany crowd before after same = same

-- the counts stay right if there are more lines: a crowd among the lines is also among more lines
pub counts_more : (fault : ServeFault) (crowd more : Bool) (before after : ℕ) → (crowd ≡ true → more ≡ true) → CountsGone fault crowd before after → CountsGone fault more before after
counts_more faults.WorkersGone crowd more before after there counts = elim counts as (λ _. CountsGone faults.WorkersGone more before after) [
  | inl rises ↦ inl rises
  | inr same ↦ inr (same.0, there same.1)
]
counts_more faults.BadPlan crowd more before after there counts = counts
counts_more faults.OutOfMemory crowd more before after there counts = counts
counts_more faults.Write crowd more before after there counts = counts
counts_more faults.Read crowd more before after there counts = counts
counts_more faults.TooMany crowd more before after there counts = counts

-- the counts stay right for an equal crowd and an equal count before
pub counts_same : (fault : ServeFault) (crowd crowd' : Bool) (before before' after : ℕ) → crowd ≡ crowd' → before ≡ before' → CountsGone fault crowd before after → CountsGone fault crowd' before' after
counts_same fault crowd crowd' before before' after e f counts =
    let Crowds : Bool → Type 0 = λ x. CountsGone fault x before after in
    let Befores : ℕ → Type 0 = λ x. CountsGone fault crowd' x after in
    subst Befores f (subst Crowds e counts)
