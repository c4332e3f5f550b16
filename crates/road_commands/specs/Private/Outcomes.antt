-- The result of the call that answers a command.
use Rattle.std.specs.Prelude.{◌≡◌, ℕ, Bool, true, IfErr, IfOk, OnErr, OnOk, Result}
use Rattle.road_workers.specs.Crews.{gone_after}
use Rattle.road_workers.specs.declared.faults.CrewFault.{CrewFault}
use Rattle.road_format.specs.Views.{answer_view}
use Rattle.road_format.specs.declared.answer.Answer.{Answer}
use Rattle.road_commands.specs.Laboratory.{Laboratory, Outcome, gone_after_command, laboratory_of_winners}

-- a command, which may be a crowd that is gathered by a gatherer that may fail with these faults, is answered
pub record IsAnswered (gathered : Bool) (may_fail_with : CrewFault → Type 0) (outcome : Outcome)
    (result : Result Answer CrewFault) (old new : Laboratory) (count later : ℕ) : Type 0 where
  -- the answer is that of the outcome
  pub answer : IfOk result (λ answer. answer_view answer ≡ outcome.answer)
  -- if answered, the laboratory is that of the outcome (of edits, only the winners)
  pub after : OnOk result (new ≡ laboratory_of_winners outcome.after)
  -- if not answered, it is unchanged
  pub unchanged : OnErr result (new ≡ old)
  -- the crew has gone once more if that is why there is no answer, unless a crowd was gathered
  pub gone : later ≡ gone_after_command result gathered count
  -- if a crowd was gathered and not answered, the gatherer may fail with that fault
  pub crowd_fault : gathered ≡ true → IfErr result (λ fault. may_fail_with fault)

-- a command that is not a crowd is answered, and the count of how often the crew has gone is updated
pub record IsOutcome (outcome : Outcome) (result : Result Answer CrewFault) (old new : Laboratory)
    (count later : ℕ) : Type 0 where
  -- the answer is that of the outcome
  pub answer : IfOk result (λ answer. answer_view answer ≡ outcome.answer)
  -- if answered, the laboratory is that of the outcome (of edits, only the winners)
  pub after : OnOk result (new ≡ laboratory_of_winners outcome.after)
  -- if not answered, it is unchanged
  pub unchanged : OnErr result (new ≡ old)
  -- the crew has gone once more if that is why there is no answer
  pub gone : later ≡ gone_after result count
