-- The sessions of a journal when its store is closed.
use Rattle.std.specs.Prelude.{List}
use mathlib.Core.List.{IsPrefix}
use Rattle.road_sessions.specs.declared.entry.Entry.{Entry}
use Rattle.road_sessions.specs.Journals.{AreInJournal, AreWritesOf, AreAtRisingPlaces}
use Rattle.road_sessions.specs.Sessions.{Session}

-- what a session has seen is a prefix of the journal, which contains its writes, all with its number, at rising places
abbrev pub IsSessionOf : List Entry → Session → Type 0
IsSessionOf journal s =
    AreAtRisingPlaces s.view.own × AreWritesOf s.number s.view.own × AreInJournal s.view.own journal
    × IsPrefix s.seen journal
