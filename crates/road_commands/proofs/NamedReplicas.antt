-- The outcome of a command whose replica is looked up by its name.
use Rattle.std.proofs.Common.{ℕ, IsSome}
use Rattle.std.specs.Prelude.{Result, false}
use Rattle.std.specs.declared.result.Result.TheVariants.{Ok, Err}
use Rattle.road_workers.specs.declared.faults.CrewFault.{CrewFault}
use Rattle.road_workers.specs.declared.faults.CrewFault.TheVariants as crew_faults
use Rattle.road_format.specs.CommandGrammar as commands
use Rattle.road_format.specs.CommandGrammar.{Command, query_of}
use Rattle.road_format.specs.declared.answer.Answer.{Answer}
use Rattle.road_world.specs.Answers.{sheet_at}
use Rattle.road_commands.specs.Laboratory.{Laboratory, Outcome, is_gathered, outcome_at, query_outcome}
use Rattle.road_commands.specs.Private.Outcomes.{IsAnswered, IsOutcome}
use Rattle.road_commands.specs.Private.Queries.{answer_to_query}

-- a command that uses no crowd is answered
pub of_outcome : (may_fail_with : CrewFault → Type 0) (o : Outcome) (result : Result Answer CrewFault) (old new : Laboratory) (count later : ℕ) → IsOutcome o result old new count later → IsAnswered false may_fail_with o result old new count later
of_outcome may_fail_with o (Ok answer) old new count later is = record { answer = is.answer; after = is.after; unchanged = is.unchanged; gone = is.gone; crowd_fault = λ no. cc }
of_outcome may_fail_with o (Err crew_faults.WorkersGone) old new count later is = record { answer = is.answer; after = is.after; unchanged = is.unchanged; gone = is.gone; crowd_fault = λ no. cc }
of_outcome may_fail_with o (Err crew_faults.OutOfMemory) old new count later is = record { answer = is.answer; after = is.after; unchanged = is.unchanged; gone = is.gone; crowd_fault = λ no. cc }

-- a query is answered from the sheet of its replica, and uses no crowd
pub of_query : (may_fail_with : CrewFault → Type 0) (lab : Laboratory) (r : ℕ) (command : Command) (result : Result Answer CrewFault) (new : Laboratory) (count : ℕ) → IsSome (query_of command)
    → IsOutcome (query_outcome lab (answer_to_query (sheet_at lab.world r) command)) result lab new count count → IsAnswered (is_gathered lab.world.plan command) may_fail_with (outcome_at lab r command) result lab new count count
of_query may_fail_with lab r (commands.Ask at query) result new count asks is = of_outcome may_fail_with _ result lab new count count is
of_query may_fail_with lab r command result new count asks is = absurd (cc)
