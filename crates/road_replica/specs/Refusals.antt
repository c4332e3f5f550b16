-- Which calls a replica refuses, and for which cause.
use Rattle.std.specs.Prelude.{◌≡◌, ◌⊎◌, ◌+◌, ◌-◌, ◌^◌, ℕ, min, nat_lt, List, [], ◌∷◌, if◌then◌else◌}
use Rattle.std.specs.Prelude.{MatchResult, Result}
use Rattle.std.specs.Option.{option_or, option_map}
use Rattle.std.specs.declared.option.Option.{Option}
use Rattle.std.specs.declared.option.Option.TheVariants.{None, Some}
use Rattle.road_plan.specs.Plan.{Plan}
use Rattle.road_plan.specs.declared.object.Object.{Object}
use Rattle.road_plan.specs.declared.limits.TheConstants.{GREATEST_HORIZON, FIRST_IMPORT_NUMBER}
use Rattle.road_scenario.specs.Edits.{Edits}
use Rattle.road_scenario.specs.Faults.{fault_of_edit, fault_in}
use Rattle.road_scenario.specs.declared.edit.Edit.{Edit}
use Rattle.road_scenario.specs.declared.edit.Value.{Value}
use Rattle.road_scenario.specs.declared.faults.EditFault.{EditFault}
use Rattle.road_scenario.specs.declared.faults.EditFault.TheVariants as edits
use Rattle.road_sheet.specs.Sheets.{Sheet}
use Rattle.road_sheet.specs.Sheets as sheets
use Rattle.road_sheet.specs.declared.faults.SheetFault.{SheetFault}
use Rattle.road_sheet.specs.declared.faults.SheetFault.TheVariants as sheet_faults
use Rattle.road_workers.specs.declared.faults.CrewFault.{CrewFault}
use Rattle.road_workers.specs.declared.faults.CrewFault.TheVariants as growth
use Rattle.road_replica.specs.Replicas.{Replica, edit_made}
use Rattle.road_replica.specs.declared.faults.ReplicaFault.{ReplicaFault}
use Rattle.road_replica.specs.declared.faults.ReplicaFault.TheVariants.{NoObject, Step, ValueOutOfRange, Count, Insider}
use Rattle.road_replica.specs.declared.faults.ReplicaFault.TheVariants.{CountsSpent, Horizon, NoDetector, Range}
use Rattle.road_replica.specs.declared.faults.ReplicaFault.TheVariants.{NotSimulated, WorkersGone, OutOfMemory}

-- ---- causes of lower layers

-- the refusal of an edit that comes from elsewhere
abbrev pub received_edit_fault : EditFault → ReplicaFault
received_edit_fault edits.NoObject = NoObject
received_edit_fault edits.Step = Step
received_edit_fault edits.ValueOutOfRange = ValueOutOfRange
received_edit_fault edits.Count = Count

-- the refusal of an edit that the replica would make: its count is one more than the greatest held, so it can only be
-- too large
abbrev pub own_edit_fault : EditFault → ReplicaFault
own_edit_fault edits.NoObject = NoObject
own_edit_fault edits.Step = Step
own_edit_fault edits.ValueOutOfRange = ValueOutOfRange
own_edit_fault edits.Count = CountsSpent

-- the refusal of a query that the sheet refuses
abbrev pub query_fault : SheetFault → ReplicaFault
query_fault sheet_faults.NoDetector = NoDetector
query_fault sheet_faults.Range = Range
query_fault sheet_faults.NotSimulated = NotSimulated
query_fault sheet_faults.OutOfMemory = OutOfMemory

-- the refusal of a write if the sheet was not extended
abbrev pub growth_fault : CrewFault → ReplicaFault
growth_fault growth.WorkersGone = WorkersGone
growth_fault growth.OutOfMemory = OutOfMemory

-- ---- the first named cause for which a call is refused

-- the first named cause for which an edit that the replica would make is refused
abbrev pub edit_fault : Replica → Object → ℕ → Value → Option ReplicaFault
edit_fault r object step value = option_map own_edit_fault (fault_of_edit r.sheet.plan (edit_made r object step value))

-- the first named cause for which one imported edit is refused: it must not have the number of a replica
abbrev pub imported_edit_fault : Plan → Edit → Option ReplicaFault
imported_edit_fault plan edit = option_or (option_map received_edit_fault (fault_of_edit plan edit))
    (if nat_lt edit.stamp.number FIRST_IMPORT_NUMBER then Some Insider else None)

-- the cause for which an import is refused: the fault of its first faulty edit
abbrev pub import_fault : Plan → List Edit → Option ReplicaFault
import_fault plan [] = None
import_fault plan (edit ∷ edits) = option_or (imported_edit_fault plan edit) (import_fault plan edits)

-- the cause for which a scenario is not taken: the fault of its first faulty edit, by object and step
abbrev pub take_fault : Plan → Edits → Option ReplicaFault
take_fault plan edits = option_map received_edit_fault (fault_in plan edits)

-- the cause for which an advance to a step is refused
abbrev pub advance_fault : ℕ → Option ReplicaFault
advance_fault to = if nat_lt GREATEST_HORIZON to then Some Horizon else None

-- the cause for which a query for a state is refused
abbrev pub state_fault : Sheet → ℕ → Option ReplicaFault
state_fault s step = option_map query_fault (sheets.state_fault s step)

-- the first named cause for which a query for totals is refused
abbrev pub totals_fault : Sheet → ℕ → ℕ → ℕ → Option ReplicaFault
totals_fault s detector from to = option_map query_fault (sheets.totals_fault s detector from to)

-- the first named cause for which a query for rows is refused
abbrev pub rows_fault : Sheet → ℕ → ℕ → Option ReplicaFault
rows_fault s from to = option_map query_fault (sheets.rows_fault s from to)

-- ---- refusals

-- a write is refused for the named cause if there is one, and else for lost workers or out of memory
abbrev pub IsWriteRefusal : Option ReplicaFault → ReplicaFault → Type 0
IsWriteRefusal (Some cause) fault = fault ≡ cause
IsWriteRefusal None fault = (fault ≡ WorkersGone) ⊎ (fault ≡ OutOfMemory)

-- any other call is refused for the named cause if there is one, and else for out of memory
abbrev pub IsRefusal : Option ReplicaFault → ReplicaFault → Type 0
IsRefusal (Some cause) fault = fault ≡ cause
IsRefusal None fault = fault ≡ OutOfMemory

-- how often a crew has returned `WorkersGone` after a write is refused with this fault
abbrev pub gone_after_fault : ReplicaFault → ℕ → ℕ
gone_after_fault WorkersGone n = min (n + 1) (2 ^ 64 - 1)
gone_after_fault fault n = n

-- a crew's count of `WorkersGone` is right: it rises by one if a write is refused with it, else it stays
abbrev pub CountsGone : {A : Type 0} → Result A ReplicaFault → ℕ → ℕ → Type 0
CountsGone result gone later = MatchResult result (λ _. later ≡ gone) (λ fault. later ≡ gone_after_fault fault gone)
