-- Looks at the published sheet, and their refusals.
use Rattle.std.specs.Prelude.{◌≡◌, ◌⊎◌, ◌+◌, ◌<◌, length}
use Rattle.std.specs.declared.option.Option.{Option}
use Rattle.std.specs.declared.option.Option.TheVariants.{None}
use mathlib.Core.List.{IsPrefix}
use Rattle.road_replica.specs.Replicas.{Replica}
use Rattle.road_sheet.specs.Sheets.{IsRefusalBy, Sheet}
use Rattle.road_sheet.specs.declared.faults.SheetFault.{SheetFault}
use Rattle.road_sessions.specs.declared.faults.LookFault.{LookFault}
use Rattle.road_sessions.specs.declared.faults.LookFault.TheVariants.{NotEntered, Sheet as OfSheet}
use Rattle.road_sessions.specs.Journals.{IsLegal, AreInJournal, replay}
use Rattle.road_sessions.specs.Sessions.{Session}

-- a session has entered the store once more: what it has seen now is a legal history that extends all that it had seen
-- or heard of, and contains its own writes
pub record HasEntered (r : Replica) (s t : Session) : Type 0 where
  pub entered : t.view.entered ≡ s.view.entered + 1
  pub later : IsPrefix s.view.found t.view.found
  pub seen : IsPrefix s.seen t.seen
  pub legal : IsLegal r t.seen
  pub in_journal : AreInJournal t.view.own t.seen
  pub own : t.view.own ≡ s.view.own
  pub number : t.number ≡ s.number

-- a session has looked: it has entered the store, and has seen exactly what was published
abbrev pub HasLooked : Replica → Session → Session → Type 0
HasLooked r s t = HasEntered r s t × (t.seen ≡ t.view.found)

-- the sheet after the history that a session has seen
abbrev pub sheet_seen : Replica → Session → Sheet
sheet_seen r t = (replay r t.seen).sheet

-- the sheet after the history that a session's reader found in the store
abbrev pub sheet_found : Replica → Session → Sheet
sheet_found r t = (replay r t.view.found).sheet

-- a session found less in the store than it had seen, and has seen no more than before
abbrev pub HasFoundLess : Session → Session → Type 0
HasFoundLess s t = (t.seen ≡ s.seen) × (length t.view.found < length s.seen)

-- a refused query, in one of three cases: the session did not enter the store, and nothing has changed; it has looked,
-- and the sheet that it has seen refuses the query; or it entered and found less than it had seen, and the sheet that
-- it found refuses the query. A sheet's refusal is out of memory only if no named cause applies
abbrev pub IsQueryRefusal : (Sheet → Option SheetFault) → Replica → LookFault → Session → Session → Type 0
IsQueryRefusal cause_at r NotEntered s t = t ≡ s
IsQueryRefusal cause_at r (OfSheet fault) s t =
    (HasLooked r s t × IsRefusalBy (cause_at (sheet_seen r t)) fault)
    ⊎ (HasEntered r s t × HasFoundLess s t × IsRefusalBy (cause_at (sheet_found r t)) fault)

-- a refused look: it is a query without named causes
abbrev pub IsLookRefusal : Replica → LookFault → Session → Session → Type 0
IsLookRefusal r fault s t = IsQueryRefusal (λ _. None) r fault s t
