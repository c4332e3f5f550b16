-- Writes to a replica: the effect of an accepted one and the steps that it computes, and the state after a refused one.
use Rattle.std.specs.Prelude.{◌≡◌, ◌≢◌, ◌-◌, ℕ, max, MatchResult, Result}
use Rattle.std.specs.declared.option.Option.{Option}
use Rattle.std.specs.declared.option.Option.TheVariants.{None}
use Rattle.road_sheet.specs.Commands.{SheetCommand, Take, Advance}
use Rattle.road_sheet.specs.Drafts.{draft_start}
use Rattle.road_sheet.specs.Sheets.{Sheet}
use Rattle.road_rewind.specs.Growth.{TicksAtMost, kept_step, meter_after, touched_step}
use Rattle.road_replica.specs.Refusals.{IsWriteRefusal}
use Rattle.road_replica.specs.Replicas.{Replica, most_steps_taking, replica_after}
use Rattle.road_replica.specs.declared.faults.ReplicaFault.{ReplicaFault}

-- the number of steps that a command computes. If it takes edits, these are the steps from where the run resumes up to
-- the horizon
abbrev pub steps_of_command : SheetCommand → Sheet → ℕ
steps_of_command (Take edits) s = s.horizon - draft_start s.horizon (kept_step s.horizon (touched_step s edits))
steps_of_command (Advance to) s = max s.horizon to - s.horizon

-- the most steps computed for a command, even if it is refused
abbrev pub most_steps_of_command : SheetCommand → Sheet → ℕ
most_steps_of_command (Take edits) s = most_steps_taking s edits
most_steps_of_command (Advance to) s = max s.horizon to - s.horizon

-- an accepted write: no named cause applies, the replica's sheet is that after the command, and the meter counts
-- exactly the steps that are computed
pub record IsAccepted (command : SheetCommand) (cause : Option ReplicaFault) (old new : Replica)
    (meter later : ℕ) : Type 0 where
  pub accepted : cause ≡ None
  pub after : new ≡ replica_after command old
  pub steps : later ≡ meter_after meter (steps_of_command command old.sheet)

-- a refused write: it leaves the replica unchanged, and the meter too if a named cause applies
pub record IsRefused (command : SheetCommand) (cause : Option ReplicaFault) (fault : ReplicaFault) (old new : Replica)
    (meter later : ℕ) : Type 0 where
  pub refused : IsWriteRefusal cause fault
  pub unchanged : new ≡ old
  pub named : cause ≢ None → later ≡ meter
  pub few_steps : TicksAtMost (most_steps_of_command command old.sheet) meter later

-- a write that is a command to the replica's sheet, and the first named cause for which it is refused
abbrev pub IsWrite : {A : Type 0} → SheetCommand → Option ReplicaFault → Result A ReplicaFault
    → Replica → Replica → ℕ → ℕ → Type 0
IsWrite command cause result old new meter later = MatchResult result
    (λ _. IsAccepted command cause old new meter later)
    (λ fault. IsRefused command cause fault old new meter later)
