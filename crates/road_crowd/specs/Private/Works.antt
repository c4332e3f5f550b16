-- What the sessions of a crowd write, one session for each share.
use Rattle.std.specs.Prelude.{◌≡◌, ◌⊎◌, ℕ, ◌+◌, List, [], ◌∷◌, ◌++◌, None, map}
use Rattle.std.specs.List.{AllByRecursion}
use Rattle.road_plan.specs.Plan.{Plan}
use Rattle.road_replica.specs.Refusals.{advance_fault, import_fault}
use Rattle.road_replica.specs.declared.faults.ReplicaFault.TheVariants as causes
use Rattle.road_replica.specs.Replicas.{single_edit}
use Rattle.road_scenario.specs.declared.edit.Edit.{Edit}
use Rattle.road_sessions.specs.Journals.{entry}
use Rattle.road_sessions.specs.Merges.{entries_written}
use Rattle.road_sessions.specs.Sessions.{Session}
use Rattle.road_sessions.specs.declared.entry.SheetCommand.TheVariants.{Take, Advance}
use Rattle.road_sessions.specs.declared.entry.Entry.{Entry}
use Rattle.road_sessions.specs.declared.faults.WriteFault.{WriteFault}
use Rattle.road_sessions.specs.declared.faults.WriteFault.TheVariants.{JournalFull, Replica as OfReplica}

-- the entries of a session that takes these edits, one after another
abbrev pub takes_of : ℕ → List Edit → List Entry
takes_of session edits = map (λ e. entry session (Take (single_edit e))) edits

-- the entries of a session that takes the edits of a share and then advances to a step
abbrev pub share_entries : ℕ → List Edit → ℕ → List Entry
share_entries session share to = takes_of session share ++ entry session (Advance to) ∷ []

-- a session's number, and what it wrote
abbrev pub work_of : Session → ℕ × List Entry
work_of s = (s.number, entries_written s)

-- the work of sessions with the numbers from n on, one for each share
abbrev pub works_from : ℕ → List (List Edit) → ℕ → List (ℕ × List Entry)
works_from n [] to = []
works_from n (share ∷ shares) to = (n, share_entries n share to) ∷ works_from (n + 1) shares to

-- the replica has no named cause to refuse the writes of a session: the edits of its share, and an advance
abbrev pub IsAccepted : Plan → ℕ → List Edit → Type 0
IsAccepted plan to share = (import_fault plan share ≡ None) × (advance_fault to ≡ None)

-- the replica has no named cause to refuse the writes of any session
abbrev pub AreAccepted : Plan → ℕ → List (List Edit) → Type 0
AreAccepted plan to shares = AllByRecursion (IsAccepted plan to) shares

-- a write that can only be refused because the journal is full or an allocation failed
abbrev pub IsFullOrNoMemory : WriteFault → Type 0
IsFullOrNoMemory fault = (fault ≡ JournalFull) ⊎ (fault ≡ OfReplica causes.OutOfMemory)
