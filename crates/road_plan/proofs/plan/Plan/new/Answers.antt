-- A plan is made exactly if no fault is found.
use Rattle.std.proofs.Common.{sym, ◌∙◌}
use Rattle.std.proofs.lemmas.Option.{none-some}
use Rattle.road_plan.proofs.PlanFaults.{faultless}
use Rattle.road_plan.proofs.plan.Plan.new.Goals as goal

-- no fault was found
pub invariant_of-result : goal.invariant_of-result
invariant_of-result c = (faultless _).0 (sym c.first_fault.ensures ∙ c.in-None.is)

-- a fault was found, so the plan is not within the limits
pub returns-in-Some-clause-accepted : goal.returns-in-Some-clause-accepted
returns-in-Some-clause-accepted c = λ within.
    absurd (none-some _ (sym ((faultless _).1 within) ∙ sym c.first_fault.ensures ∙ c.in-Some.is))
