-- Journals: who wrote what to a replica, and the replica that results.
use Rattle.std.specs.Prelude.{◌≡◌, ◌+◌, ◌<◌, ℕ, fold, List, [], ◌∷◌, nat_eq, if◌then◌else◌}
use Rattle.std.specs.List.{AllByRecursion, slice_get}
use Rattle.std.specs.declared.option.Option.TheVariants.{Some}
use Rattle.road_plan.specs.Plan.{Plan}
use Rattle.road_sheet.specs.Commands as commands
use Rattle.road_sheet.specs.Commands.{IsHistoryFrom, sheet_after}
use Rattle.road_sheet.specs.Sheets.{Sheet, opening_sheet}
use Rattle.road_replica.specs.Replicas.{Replica, replica_after}
use Rattle.road_sessions.specs.declared.entry.SheetCommand.{SheetCommand}
use Rattle.road_sessions.specs.declared.entry.SheetCommand.TheVariants.{Take, Advance}
use Rattle.road_sessions.specs.declared.entry.Entry.{Entry}

-- a replica when it is opened: without edits or simulated steps
abbrev pub replica_of_plan : Plan → ℕ → Replica
replica_of_plan plan number = record { number = number; sheet = opening_sheet plan }

-- a journalled command, as a command to the replica's sheet
abbrev pub entry_command : SheetCommand → commands.SheetCommand
entry_command (Take edits) = commands.Take edits
entry_command (Advance to) = commands.Advance to

-- the journal entry of a session's command
abbrev pub entry : ℕ → SheetCommand → Entry
entry session command = record { session = session; command = command }

-- the replica after all commands of a journal, one after another
abbrev pub replay : Replica → List Entry → Replica
replay r journal = fold (λ q e. replica_after (entry_command e.command) q) r journal

-- the history of a journal: its entries, each with the sheet after it
abbrev pub history_of_journal : Sheet → List Entry → List commands.HistoryEntry
history_of_journal s [] = []
history_of_journal s (e ∷ es) =
    let after = sheet_after (entry_command e.command) s in
    record { session = e.session; command = entry_command e.command; sheet = after } ∷ history_of_journal after es

-- a journal is legal at a replica: each command is allowed where it stands
abbrev pub IsLegal : Replica → List Entry → Type 0
IsLegal r journal = IsHistoryFrom r.sheet (history_of_journal r.sheet journal)

-- a write: its place in the journal, counted from 0, and the entry there
abbrev pub Write : Type 0
Write = ℕ × Entry

-- each of these writes is in a journal, at its place
abbrev pub AreInJournal : List Write → List Entry → Type 0
AreInJournal writes journal = AllByRecursion (λ w. slice_get journal w.0 ≡ Some w.1) writes

-- one session made all these writes
abbrev pub AreWritesOf : ℕ → List Write → Type 0
AreWritesOf session writes = AllByRecursion (λ w. w.1.session ≡ session) writes

-- the places of these writes rise
abbrev pub AreAtRisingPlaces : List Write → Type 0
AreAtRisingPlaces [] = Unit {0}
AreAtRisingPlaces (w ∷ ws) = AllByRecursion (λ v. w.0 < v.0) ws × AreAtRisingPlaces ws

-- the writes of a session in the part of a journal that begins at a place
abbrev pub writes_from : ℕ → ℕ → List Entry → List Write
writes_from session place [] = []
writes_from session place (e ∷ es) =
    let later = writes_from session (place + 1) es in if nat_eq e.session session then (place, e) ∷ later else later

-- the writes of a session in a journal
abbrev pub writes_of : ℕ → List Entry → List Write
writes_of session journal = writes_from session 0 journal
