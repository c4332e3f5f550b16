-- The words of an interval, as values of the program's type.
use Rattle.std.specs.Prelude.{◌≡◌, ℕ, true, ◌+◌, ◌-◌, ◌*◌, ◌/◌, ◌<◌, ◌≤◌, List, length, slice_index}
use Rattle.road_plan.specs.Plan.{Plan}
use Rattle.road_words.specs.Words.{word}
use Rattle.road_ends.specs.Entries.{inlet_stream}
use Rattle.road_columns.specs.Private.Cars.{AreLonger}
use Rattle.road_columns.specs.Private.Entered.{AreInOrder, EnteredCar}
use Rattle.road_columns.specs.Private.EnteredList.{ArePlacesRising, entered_in, high16_in}
use Rattle.road_columns.specs.Private.LooseWords.{HaveLooseWords}
use Rattle.road_columns.specs.declared.cars.CarColumns.{CarColumns}
use Rattle.road_columns.specs.declared.interval.IntervalWords.{IntervalWords}

-- the cars that have entered between others
abbrev pub entered_of_words : IntervalWords → List EnteredCar
entered_of_words words = entered_in words.entered words.beside.items words.batches.items

-- these cars are at places before tail, and their places rise
pub record AreEntered (words : IntervalWords) (tail : ℕ) : Type 0 where
  pub few : words.entered ≤ tail
  pub rising : ArePlacesRising words.entered words.beside.items
  pub in_order : AreInOrder (entered_of_words words) tail

-- nothing changes but the words of the cars, and there is as much room for them as before
pub record KeepsRest (old new : IntervalWords) : Type 0 where
  pub source : new.source ≡ old.source
  pub drawn : new.drawn ≡ old.drawn
  pub worded : new.worded ≡ old.worded
  pub inlets : new.inlets.items ≡ old.inlets.items
  pub rows_each : length new.rows.items ≡ length old.rows.items
  pub beside_each : length new.beside.items ≡ length old.beside.items

-- there is room for the words of a car that enters at a place of columns that end before `tail`; a row has `width`
-- words
pub record CanKeep (words : IntervalWords) (place tail width : ℕ) : Type 0 where
  pub rows_each : length words.rows.items ≡ 64 * width
  pub short : width < 65536
  pub order : place ≤ tail
  pub within : tail < width
  pub room : words.entered < length words.beside.items
  pub entered : AreEntered words tail

-- the words of an entering car are kept: at most one more car has entered between others, and the columns end one place
-- later
pub record KeepsCar (old new : IntervalWords) (tail : ℕ) : Type 0 where
  pub rest : KeepsRest old new
  pub bound : new.entered ≤ old.entered + 1
  pub entered : AreEntered new (tail + 1)

-- only the rows and the lists of words change
pub record MakesRows (old new : IntervalWords) : Type 0 where
  pub source : new.source ≡ old.source
  pub drawn : new.drawn ≡ old.drawn
  pub inlets : new.inlets.items ≡ old.inlets.items

-- there is room for this many cars to enter: if the words are drawn, behind the cars at their present places; else once
-- the cars are moved back to the first places
pub record HaveRoom (entries : ℕ) (cars : CarColumns) (words : IntervalWords) : Type 0 where
  pub rows_each : length words.rows.items ≡ 64 * (length cars.cells.items + 8)
  pub room : cars.tail - cars.head + entries + 9 ≤ length cars.cells.items
  pub beside : entries ≤ length words.beside.items
  pub room_behind : words.drawn ≡ true → cars.tail + entries + 1 ≤ length cars.cells.items
  pub beside_behind : words.drawn ≡ true → words.entered + entries ≤ length words.beside.items

-- more room is made for cars and their words: nothing changes, or the words are still to be drawn
pub record MakesRoom (cars cars' : CarColumns) (words words' : IntervalWords) : Type 0 where
  pub longer : AreLonger cars cars'
  pub source : words'.source ≡ words.source
  pub inlets : words'.inlets.items ≡ words.inlets.items
  pub drawn : words'.drawn ≡ true → (cars' ≡ cars) × (words' ≡ words)

-- at step k of the interval that starts at step `first`, the words of the inlets are there and, if `worded`, those of
-- all cars that may move
pub record HaveIntervalWords (p : Plan) (first k : ℕ) (cars : CarColumns) (words : IntervalWords) : Type 0 where
  pub rows_each : length words.rows.items ≡ 64 * (length cars.cells.items + 8)
  pub entered : AreEntered words cars.tail
  pub of_cars : words.worded ≡ true
      → HaveLooseWords p.words first (length cars.cells.items + 8) k words.rows.items (entered_of_words words) cars.head
      cars.tail cars.cells.items (slice_index cars.numbers.items)
  pub inlet_words : (i r : ℕ) → i < length words.inlets.items → r < 64
      → high16_in words.inlets.items i r ≡ word p.words (inlet_stream i) (first + r) / 65536
