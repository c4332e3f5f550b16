-- The faults of runs.
use Rattle.std.specs.Prelude.{◌≡◌, ◌⊎◌, ℕ, ◌+◌, ◌-◌, ◌^◌, min, Bool, true, Result, Ok, Err}
use Rattle.road_workers.specs.declared.faults.CrewFault.{CrewFault}
use Rattle.road_workers.specs.declared.faults.CrewFault.TheVariants as crew_faults
use Rattle.road_serve.specs.Failures.{RisesByOne}
use Rattle.road_serve.specs.declared.faults.EarlyEnd.{EarlyEnd}
use Rattle.road_serve.specs.declared.faults.EarlyEnd.TheVariants as ends
use Rattle.road_serve.specs.declared.faults.ServeFault.{ServeFault}
use Rattle.road_serve.specs.declared.faults.ServeFault.TheVariants as faults

-- the fault of a run that is over for this cause
abbrev pub early_fault : EarlyEnd → ServeFault
early_fault ends.BadPlan = faults.BadPlan
early_fault ends.TooMany = faults.TooMany

-- the fault of a run whose crew could not be started, or whose laboratory returned this fault for a command
abbrev pub crew_fault : CrewFault → ServeFault
crew_fault crew_faults.WorkersGone = faults.WorkersGone
crew_fault crew_faults.OutOfMemory = faults.OutOfMemory

-- how often a crew has returned `WorkersGone` after a call with this result: the count increases by one if that was the
-- fault, unless it is already the largest u64
abbrev pub gone_after_call : {A : Type 0} → Result A ServeFault → ℕ → ℕ
gone_after_call (Ok done) n = n
gone_after_call (Err faults.WorkersGone) n = min (n + 1) (2 ^ 64 - 1)
gone_after_call (Err fault) n = n

-- How often a crew has returned `WorkersGone`, before and after a call with a fault. For any fault but `WorkersGone`
-- the count is the same. For `WorkersGone` it is one more, or the same if a crowd was read, because a thread of the
-- crowd may be the cause.
abbrev pub CountsGone : ServeFault → Bool → ℕ → ℕ → Type 0
CountsGone faults.WorkersGone crowd before after = RisesByOne before after ⊎ ((after ≡ before) × (crowd ≡ true))
CountsGone fault crowd before after = after ≡ before
