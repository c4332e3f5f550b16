-- The refusals of lines, and their texts.
use Rattle.std.specs.Prelude.{ℕ, List, codes, Option, Some, None, Result, Err}
use Rattle.road_plan.specs.declared.faults.PlanFault.{PlanFault}
use Rattle.road_plan.specs.declared.faults.PlanFault.TheVariants as plan_faults
use Rattle.road_format.specs.declared.refusal.Refusal.{Refusal}
use Rattle.road_format.specs.declared.refusal.Refusal.TheVariants as refusals
use Rattle.road_format.specs.declared.faults.LineFault.{LineFault}
use Rattle.road_format.specs.declared.faults.LineFault.TheVariants as line_faults
use Rattle.road_format.specs.declared.faults.PlanLineFault.{PlanLineFault}
use Rattle.road_format.specs.declared.faults.PlanLineFault.TheVariants as plan_line_faults

-- the text of a refusal
abbrev pub text_of : Refusal → List ℕ
text_of refusals.NoPlan = codes "no plan"
text_of refusals.LineTooLong = codes "line too long"
text_of refusals.NotJson = codes "not json"
text_of refusals.NotAPlan = codes "not a plan"
text_of refusals.Names = codes "Names"
text_of refusals.Length = codes "Length"
text_of refusals.Exit = codes "Exit"
text_of refusals.Zones = codes "Zones"
text_of refusals.Inlets = codes "Inlets"
text_of refusals.Detectors = codes "Detectors"
text_of refusals.Default = codes "Default"
text_of refusals.NotACommand = codes "not a command"
text_of refusals.UnknownForm = codes "unknown form"
text_of refusals.NoReplica = codes "NoReplica"
text_of refusals.NoMessage = codes "NoMessage"
text_of refusals.NameTaken = codes "NameTaken"
text_of refusals.NoObject = codes "NoObject"
text_of refusals.Step = codes "Step"
text_of refusals.ValueOutOfRange = codes "ValueOutOfRange"
text_of refusals.CountsSpent = codes "CountsSpent"
text_of refusals.Count = codes "Count"
text_of refusals.Insider = codes "Insider"
text_of refusals.Horizon = codes "Horizon"
text_of refusals.NoDetector = codes "NoDetector"
text_of refusals.Range = codes "Range"
text_of refusals.NotSimulated = codes "NotSimulated"

-- the refusal of a plan; out of memory is not a refusal
abbrev pub plan_refusal : PlanFault → Option Refusal
plan_refusal plan_faults.Length = Some refusals.Length
plan_refusal plan_faults.Exit = Some refusals.Exit
plan_refusal plan_faults.Zones = Some refusals.Zones
plan_refusal plan_faults.Inlets = Some refusals.Inlets
plan_refusal plan_faults.Detectors = Some refusals.Detectors
plan_refusal plan_faults.Default = Some refusals.Default
plan_refusal plan_faults.OutOfMemory = None

-- the refusal of a plan line; out of memory is not a refusal
abbrev pub plan_line_refusal : PlanLineFault → Option Refusal
plan_line_refusal plan_line_faults.NotJson = Some refusals.NotJson
plan_line_refusal plan_line_faults.NotAPlan = Some refusals.NotAPlan
plan_line_refusal plan_line_faults.Names = Some refusals.Names
plan_line_refusal (plan_line_faults.Plan fault) = plan_refusal fault
plan_line_refusal plan_line_faults.OutOfMemory = None

-- the refusal of a command line; out of memory is not a refusal
abbrev pub line_refusal : LineFault → Option Refusal
line_refusal line_faults.NotJson = Some refusals.NotJson
line_refusal line_faults.NotACommand = Some refusals.NotACommand
line_refusal line_faults.UnknownForm = Some refusals.UnknownForm
line_refusal line_faults.OutOfMemory = None

-- the result of the next step for the value, or this refusal if there is none
abbrev pub result_or_refusal : {A B : Type 0} → Refusal → Option A → (A → Result B Refusal) → Result B Refusal
result_or_refusal refusal None next = Err refusal
result_or_refusal refusal (Some x) next = next x
