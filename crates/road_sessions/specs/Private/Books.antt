-- The logbook of a history. Each page names the pen that may write the next page, and writing a page spends its pen. So
-- whoever has the pen that the last page names knows that there is no later page.
use Rattle.std.specs.Prelude.{◌≡◌, ◌<◌, ℕ, true, List, [], ◌∷◌, ◌++◌, length, nat_eq, if◌then◌else◌}
use Rattle.std.specs.List.{AllByRecursion}
use mathlib.Core.List.{IsPrefix}
use Rattle.logbook.specs.Pages as logbook
use Rattle.logbook.specs.Pages.{Cell, Step, View, Named, cell, may_make, nib}
use Rattle.road_sessions.specs.declared.entry.Entry.{Entry}
use Rattle.road_sessions.specs.declared.entry.SheetCommand.TheVariants.{Advance}
use Rattle.road_sessions.specs.declared.history.Page.{Page}
use Rattle.road_sessions.specs.Books.{Book}

-- a history's logbook, and the key of the pen of its first page
abbrev pub book : logbook.Book → ℕ → Book
book pages first_pen = record { pages = pages; first_pen = first_pen }

-- a page by its parts
abbrev pub page : Entry → ℕ → ℕ → Page
page entry by next = record { entry = entry; by = by; next = next }

-- a placeholder in steps that write no page
abbrev pub no_page : Page
no_page = page (record { session = 0; command = Advance 0 }) 0 0

-- the word of a logbook that its steps exchange
abbrev pub first_word : logbook.Book → Named
first_word pages = record { tracked = true; key = 0; book = pages }

-- the word of this key is at home in the logbook, so the pen that could write it is spent
abbrev pub IsHome : List Cell → ℕ → Type 0
IsHome cells key = (cell cells key).1 ≡ true

-- the first word is at home, and the pen of each page is spent
abbrev pub HasPages : List Cell → List Page → Type 0
HasPages cells pages = (0 < length cells) × IsHome cells 0 × AllByRecursion (λ p. IsHome cells p.by) pages

-- the entries of the pages from the one that this pen wrote on: each page is by the pen that the page before it names
abbrev pub entries_from : ℕ → List Page → List Entry
entries_from pen [] = []
entries_from pen (p ∷ ps) = if nat_eq p.by pen then p.entry ∷ entries_from p.next ps else entries_from pen ps

-- the pen that may write the next page
abbrev pub pen_after : ℕ → List Page → ℕ
pen_after pen [] = pen
pen_after pen (p ∷ ps) = if nat_eq p.by pen then pen_after p.next ps else pen_after pen ps

-- a step appends its entry after all entries so far, with the pen that may write it
abbrev pub Appends : Step Page → View Page ℕ → ℕ → View Page ℕ → Type 0
Appends s before found after = (first : ℕ) (pages : List Page) → IsPrefix pages before.0
    → pen_after first pages ≡ s.ask.by
    → (entries_from first after.0 ≡ entries_from first pages ++ s.ask.entry ∷ [])
    × (pen_after first after.0 ≡ s.ask.next)

-- whoever has the pen of the next page, and keeps it, has seen all pages
abbrev pub KnowsAll : Step Page → View Page ℕ → ℕ → View Page ℕ → Type 0
KnowsAll s before found after = (after.1.0 ≡ before.1.0)
    × ((first : ℕ) (pages : List Page) → IsPrefix pages before.0 → pen_after first pages ≡ before.1.0.key
    → entries_from first after.0 ≡ entries_from first pages)

-- a step makes one more pen
abbrev pub MakesPen : Step Page → View Page ℕ → ℕ → View Page ℕ → Type 0
MakesPen s before found after = (key : ℕ) × (after.1.0 ≡ nib may_make key 0)
