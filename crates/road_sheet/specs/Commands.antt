-- Commands to a sheet, and the histories that they make.
use Rattle.std.specs.Prelude.{◌≡◌, ◌≤◌, ℕ, max, List, [], ◌∷◌}
use Rattle.road_plan.specs.Plan.{Plan}
use Rattle.road_plan.specs.declared.limits.TheConstants.{GREATEST_HORIZON}
use Rattle.road_scenario.specs.Edits.{Edits}
use Rattle.road_scenario.specs.Faults.{AreInRange}
use Rattle.road_scenario.specs.Winners.{join}
use Rattle.road_sheet.specs.Sheets.{Sheet}

-- a command to a sheet: edits are taken, or the run is simulated up to a step
pub data SheetCommand : Type 0 where
  Take : Edits → SheetCommand
  Advance : ℕ → SheetCommand

-- the sheet after a command: the edits are joined in, or the horizon becomes the step if that is later
abbrev pub sheet_after : SheetCommand → Sheet → Sheet
sheet_after (Take edits) s = record s { edits = join s.edits edits }
sheet_after (Advance to) s = record s { horizon = max s.horizon to }

-- a command is allowed for a plan: its edits are in the plan and its ranges, or its step is within the limit
abbrev pub IsAllowed : Plan → SheetCommand → Type 0
IsAllowed plan (Take edits) = AreInRange plan edits
IsAllowed plan (Advance to) = to ≤ GREATEST_HORIZON

-- an entry of a history: a session, its command, and the sheet after it
pub record HistoryEntry : Type 0 where
  pub session : ℕ
  pub command : SheetCommand
  pub sheet : Sheet

-- a legal history from a sheet on: each command is allowed, and each sheet is its command applied to the sheet before
abbrev pub IsHistoryFrom : Sheet → List HistoryEntry → Type 0
IsHistoryFrom s [] = Unit {0}
IsHistoryFrom s (entry ∷ entries) =
    IsAllowed s.plan entry.command × (entry.sheet ≡ sheet_after entry.command s) × IsHistoryFrom entry.sheet entries
