-- The rule of the store, and what its steps ensure.
use Rattle.std.specs.Prelude.{◌≡◌, ℕ, ◌+◌, List, [], ◌∷◌, ◌++◌}
use mathlib.Core.Option.{some}
use mathlib.Core.List.{IsPrefix}
use lib.ListN.{get_elem?}
use Rattle.road_sessions.specs.declared.entry.Entry.{Entry}
use Rattle.road_sessions.specs.declared.reader_view.View.{View}
use Rattle.road_sessions.specs.Journals.{Write}
use Rattle.road_sessions.specs.Sessions.{view_of}

-- what each reader found when it last entered is a prefix of the published history
abbrev pub FoundArePrefixes : List Entry → List View → Type 0
FoundArePrefixes published views =
    (reader : ℕ) (v : View) → get_elem? views reader ≡ some v → IsPrefix v.found published

-- a reader entered to look: it found what was published, which extends what it had found before
abbrev pub EntersToLook : View → List Entry → View → Type 0
EntersToLook v published w = IsPrefix v.found published × (w ≡ view_of published v.own (v.entered + 1))

-- the last entry, as a write, of the part of a history that begins at a place
abbrev pub last_write_from : ℕ → List Entry → List Write
last_write_from place [] = []
last_write_from place (e ∷ []) = (place, e) ∷ []
last_write_from place (e ∷ f ∷ es) = last_write_from (place + 1) (f ∷ es)

-- a reader entered at the end of its session's write: this write is the last entry of the published history
abbrev pub EntersAfterWrite : View → List Entry → View → Type 0
EntersAfterWrite v published w =
    IsPrefix v.found published × (w ≡ view_of published (v.own ++ last_write_from 0 published) v.entered)

-- the last of these operations replaces the published history by this one
abbrev pub EndWith : List Entry → List (List Entry) → Type 0
EndWith history operations = (before : List (List Entry)) × (operations ≡ before ++ history ∷ [])
