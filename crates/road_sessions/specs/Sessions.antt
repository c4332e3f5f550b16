-- Sessions, as contracts see them.
use Rattle.std.specs.Prelude.{◌≡◌, ◌+◌, ℕ, List, [], ◌∷◌, ◌++◌, length}
use mathlib.Core.List.{IsPrefix}
use Rattle.road_replica.specs.Replicas.{Replica}
use Rattle.road_replica.specs.declared.reply.Reply.{Reply}
use Rattle.road_sessions.specs.declared.entry.Entry.{Entry}
use Rattle.road_sessions.specs.declared.faults.WriteFault.{WriteFault}
use Rattle.road_sessions.specs.declared.reader_view.View.{View}
use Rattle.road_sessions.specs.declared.wish.Wish.{Wish}
use Rattle.road_sessions.specs.Journals.{IsLegal, Write, AreInJournal, AreWritesOf, AreAtRisingPlaces, entry, replay}
use Rattle.road_sessions.specs.Writes.{IsAccepted, IsRefused, reply_to, wish_command}

-- what the store knows of a reader: the history that was published when it last entered, the writes of its session, and
-- how often it has entered to look
abbrev pub view_of : List Entry → List Write → ℕ → View
view_of found own entered = record { found = found; own = own; entered = entered }

-- what the store knows of a reader that has never entered and whose session has written nothing
abbrev pub new_view : View
new_view = view_of [] [] 0

-- a session: its number, the history of all that it has seen, heard of or written, and what the store knows of its
-- reader
pub record Session : Type 0 where
  pub number : ℕ
  pub seen : List Entry
  pub view : View

-- a session by its parts
abbrev pub session_of : ℕ → List Entry → View → Session
session_of number seen view = record { number = number; seen = seen; view = view }

-- the invariant of sessions: the history that a session has seen is legal, and contains its own writes at rising places
pub record IsSession (r : Replica) (s : Session) : Type 0 where
  pub legal : IsLegal r s.seen
  pub own : AreWritesOf s.number s.view.own
  pub rising : AreAtRisingPlaces s.view.own
  pub in_journal : AreInJournal s.view.own s.seen

-- sessions that have seen and written nothing, numbered one after another from n
abbrev pub AreNewSessions : ℕ → List Session → Type 0
AreNewSessions n [] = Unit {0}
AreNewSessions n (s ∷ ss) = (s ≡ session_of n [] new_view) × AreNewSessions (n + 1) ss

-- an accepted write: the session has now seen a legal history that extends all that it had seen or heard of and ends
-- with the write, at its place. That history was published, and the write was added to the session's own. No named
-- cause applied at that place, and the meter counts exactly the steps of the wish
pub record IsAcceptedWrite (limit : ℕ) (r : Replica) (wish : Wish) (s : Session) (place : ℕ) (reply : Reply)
    (t : Session) (meter after : ℕ) : Type 0 where
  pub front : List Entry
  pub before : IsPrefix s.seen front
  pub seen : t.seen ≡ front ++ entry s.number (wish_command wish (replay r front)) ∷ []
  pub legal : IsLegal r t.seen
  pub place_is : place ≡ length front
  pub reply_is : reply ≡ reply_to wish (replay r front)
  pub found : t.view.found ≡ t.seen
  pub later : IsPrefix s.view.found t.view.found
  pub own : t.view.own ≡ s.view.own ++ (place, entry s.number (wish_command wish (replay r front))) ∷ []
  pub number : t.number ≡ s.number
  pub entered : t.view.entered ≡ s.view.entered
  pub accepted : IsAccepted limit wish r front meter after

-- a write is refused after a legal history that extends what the session has seen
pub record IsRefusedThere (limit : ℕ) (r : Replica) (wish : Wish) (seen : List Entry) (fault : WriteFault)
    (meter after : ℕ) : Type 0 where
  pub front : List Entry
  pub before : IsPrefix seen front
  pub legal : IsLegal r front
  pub refused : IsRefused limit wish r front fault meter after

-- a refused write: it leaves the session unchanged, and was refused after such a history
pub record IsRefusedWrite (limit : ℕ) (r : Replica) (wish : Wish) (s : Session) (fault : WriteFault) (t : Session)
    (meter after : ℕ) : Type 0 where
  pub unchanged : t ≡ s
  pub refused : IsRefusedThere limit r wish s.seen fault meter after
