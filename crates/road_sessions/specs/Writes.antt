-- Wishes: the writes that a session asks for, the replies, the steps that they cost, and why they are refused.
use Rattle.std.specs.Prelude.{◌≡◌, ◌≢◌, ◌⊎◌, ℕ, max, nat_le, List, length, MatchResult, Result, if◌then◌else◌}
use Rattle.std.specs.Option.{option_map}
use Rattle.std.specs.declared.option.Option.{Option}
use Rattle.std.specs.declared.option.Option.TheVariants.{None, Some}
use Rattle.road_rewind.specs.Growth.{TicksAtMost, meter_after, touched_step}
use Rattle.road_replica.specs.Replicas.{Replica, edit_made, single_edit}
use Rattle.road_replica.specs.Refusals as refusals
use Rattle.road_replica.specs.Writes.{most_steps_of_command, steps_of_command}
use Rattle.road_replica.specs.declared.faults.ReplicaFault.{ReplicaFault}
use Rattle.road_replica.specs.declared.faults.ReplicaFault.TheVariants as causes
use Rattle.road_replica.specs.declared.reply.Reply.{Reply}
use Rattle.road_replica.specs.declared.reply.Reply.TheVariants.{Stamped, Touched, Horizon}
use Rattle.road_scenario.specs.declared.edit.Value.TheVariants.{Put, Withdrawn}
use Rattle.road_sessions.specs.declared.entry.SheetCommand.{SheetCommand}
use Rattle.road_sessions.specs.declared.entry.SheetCommand.TheVariants as commands
use Rattle.road_sessions.specs.declared.entry.Entry.{Entry}
use Rattle.road_sessions.specs.declared.wish.Wish.{Wish}
use Rattle.road_sessions.specs.declared.wish.Wish.TheVariants.{Take, Advance, Edit, Withdraw}
use Rattle.road_sessions.specs.declared.faults.WriteFault.{WriteFault}
use Rattle.road_sessions.specs.declared.faults.WriteFault.TheVariants.{JournalFull, Replica as OfReplica}
use Rattle.road_sessions.specs.Journals.{entry_command, replay}

-- the command for a wish at a replica: an edit that the replica makes is journalled as taking that edit
abbrev pub wish_command : Wish → Replica → SheetCommand
wish_command (Take edits) r = commands.Take edits.now
wish_command (Advance to) r = commands.Advance to
wish_command (Edit object step value) r = commands.Take (single_edit (edit_made r object step (Put value)))
wish_command (Withdraw object step) r = commands.Take (single_edit (edit_made r object step Withdrawn))

-- the reply to a wish: the touched step, the horizon, or the new stamp
abbrev pub reply_to : Wish → Replica → Reply
reply_to (Take edits) r = Touched (touched_step r.sheet edits.now)
reply_to (Advance to) r = Horizon (max r.sheet.horizon to)
reply_to (Edit object step value) r = Stamped (edit_made r object step (Put value)).stamp
reply_to (Withdraw object step) r = Stamped (edit_made r object step Withdrawn).stamp

-- the number of steps computed for a wish if it is accepted
abbrev pub steps_of_wish : Wish → Replica → ℕ
steps_of_wish wish r = steps_of_command (entry_command (wish_command wish r)) r.sheet

-- the most steps computed for a wish, even if it is refused: those that its edits touch and 63 more, or those that an
-- advance adds
abbrev pub most_steps_of_wish : Wish → Replica → ℕ
most_steps_of_wish wish r = most_steps_of_command (entry_command (wish_command wish r)) r.sheet

-- the first named cause for which the replica refuses a wish
abbrev pub wish_fault : Wish → Replica → Option ReplicaFault
wish_fault (Take edits) r = refusals.take_fault r.sheet.plan edits.now
wish_fault (Advance to) r = refusals.advance_fault to
wish_fault (Edit object step value) r = refusals.edit_fault r object step (Put value)
wish_fault (Withdraw object step) r = refusals.edit_fault r object step Withdrawn

-- the first named cause for which a write is refused; the journal has room for `limit` entries
abbrev pub write_fault : ℕ → Wish → Replica → List Entry → Option WriteFault
write_fault limit wish r journal =
    if nat_le limit (length journal) then Some JournalFull
    else option_map OfReplica (wish_fault wish (replay r journal))

-- a write is refused for the named cause if there is one, and else for lost workers or out of memory
abbrev pub IsWriteRefusal : Option WriteFault → WriteFault → Type 0
IsWriteRefusal (Some cause) fault = fault ≡ cause
IsWriteRefusal None fault = (fault ≡ OfReplica causes.WorkersGone) ⊎ (fault ≡ OfReplica causes.OutOfMemory)

-- a write is accepted after a journal: no named cause applies, and the meter counts exactly the steps of the wish
pub record IsAccepted (limit : ℕ) (wish : Wish) (r : Replica) (journal : List Entry) (meter later : ℕ) : Type 0 where
  pub accepted : write_fault limit wish r journal ≡ None
  pub steps : later ≡ meter_after meter (steps_of_wish wish (replay r journal))

-- a write is refused after a journal: the meter is unchanged if a named cause applies; otherwise it counts at most the
-- steps that the wish may cost
pub record IsRefused (limit : ℕ) (wish : Wish) (r : Replica) (journal : List Entry) (fault : WriteFault)
    (meter later : ℕ) : Type 0 where
  pub refused : IsWriteRefusal (write_fault limit wish r journal) fault
  pub named : write_fault limit wish r journal ≢ None → later ≡ meter
  pub few_steps : TicksAtMost (most_steps_of_wish wish (replay r journal)) meter later

-- how often a crew has returned `WorkersGone` after a write is refused with this fault
abbrev pub gone_after_fault : WriteFault → ℕ → ℕ
gone_after_fault JournalFull n = n
gone_after_fault (OfReplica fault) n = refusals.gone_after_fault fault n

-- a crew's count of `WorkersGone` is right: it rises by one if a write is refused with it, else it stays
abbrev pub CountsGone : {A : Type 0} → Result A WriteFault → ℕ → ℕ → Type 0
CountsGone result gone later = MatchResult result (λ _. later ≡ gone) (λ fault. later ≡ gone_after_fault fault gone)
