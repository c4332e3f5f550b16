-- The result of closing a store.
use Rattle.std.specs.Prelude.{◌≡◌, ◌≢◌, ◌+◌, ◌<◌, ℕ, List, [], ◌∷◌, length}
use Rattle.std.specs.List.{AllByRecursion}
use mathlib.Core.List.{IsPrefix}
use Rattle.road_sessions.specs.declared.entry.Entry.{Entry}
use Rattle.road_sessions.specs.Journals.{writes_of}
use Rattle.road_sessions.specs.Sessions.{Session}

-- no two of these sessions have the same number
abbrev pub AreApart : List Session → Type 0
AreApart [] = Unit {0}
AreApart (s ∷ ss) = AllByRecursion (λ t. s.number ≢ t.number) ss × AreApart ss

-- these are all sessions of a store that was opened with `count`: there are that many, with different numbers below it
abbrev pub AreAll : ℕ → List Session → Type 0
AreAll count ss = (length ss ≡ count) × AreApart ss × AllByRecursion (λ s. s.number < count) ss

-- the number of writes that these sessions made in total
abbrev pub write_count : List Session → ℕ
write_count [] = 0
write_count (s ∷ ss) = length s.view.own + write_count ss

-- a journal has the writes of a session: its entries with the session's number are exactly these writes, at their
-- places, and what the session has seen is a prefix of the journal
abbrev pub HasWritesOf : List Entry → Session → Type 0
HasWritesOf journal s = (writes_of s.number journal ≡ s.view.own) × IsPrefix s.seen journal

-- these sessions and no others wrote a journal: it has the writes of each, and as many entries as they made writes
abbrev pub IsWrittenBy : List Entry → List Session → Type 0
IsWrittenBy journal ss = (length journal ≡ write_count ss) × AllByRecursion (HasWritesOf journal) ss
