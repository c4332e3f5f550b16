-- Motion of the cars at some places of columns.
use Rattle.std.specs.Prelude.{◌≡◌, ℕ, ◌⊎◌, ◌+◌, ◌-◌, ◌<◌, ◌≤◌, List, [], length, min, nat_eq, slice_index}
use Rattle.std.specs.Prelude.{if◌then◌else◌}
use Rattle.std.specs.List.{slice_index_or}
use Rattle.road_cells.specs.declared.car.TheConstants.{GREATEST_SPEED}
use Rattle.road_rules.specs.Speeds.{wanted_speed}
use Rattle.road_columns.specs.Private.EnteredList.{ArePlacesRising}
use Rattle.road_columns.specs.declared.step_words.Piece.{Piece}
use Rattle.road_columns.specs.declared.step_words.StepWords.{StepWords}

-- the cell that the car at a place may not reach: for the first car the cell `front`, else the cell of the car in front
-- of it
abbrev pub ahead_at : ℕ → ℕ → List ℕ → ℕ → ℕ
ahead_at from front cells q = if nat_eq q from then front else slice_index cells (q - 1)

-- the speed of the car at a place by rules 1 and 2
abbrev pub wanted_at : ℕ → ℕ → ℕ → List ℕ → List ℕ → ℕ → ℕ
wanted_at from front limit cells speeds q =
    wanted_speed (slice_index speeds q) limit
    (min GREATEST_SPEED (ahead_at from front cells q - (slice_index cells q + 1)))

-- the upper 16 bits of the word of the car at a place q: those in its own batch if it is one of the first n cars beside
-- the rows, else those in column q - m of the row, where m of these cars are before it
pub record IsHigh16At (row : List ℕ) (index n : ℕ) (beside : List ℕ) (batches : List (List ℕ))
    (q high16 : ℕ) : Type 0 where
  pub in_row : (m : ℕ) → m ≤ n → ((i : ℕ) → i < m → slice_index beside i < q)
      → ((i : ℕ) → m ≤ i → i < n → q < slice_index beside i)
      → slice_index row (q - m) ≡ high16
  pub own : (i : ℕ) → i < n → slice_index beside i ≡ q → slice_index (slice_index_or batches i []) index ≡ high16

-- a step has the words of the cars up to the end of a piece: enough words in its row, and the places of the cars that
-- have entered between others
pub record HaveWords (words : StepWords) (piece : Piece) : Type 0 where
  pub row : piece.to ≤ length words.row.now
  pub beside : piece.last ≤ length words.beside.now
  pub rising : ArePlacesRising piece.last words.beside.now
  pub high : (i : ℕ) → i < piece.last → slice_index words.beside.now i < piece.to
  pub places : (i : ℕ) → i < piece.last → i ≤ slice_index words.beside.now i

-- of the cars that have entered between others, those before index `first` are in front of a piece, and the next ones
-- are in it
pub record BeginsAt (beside : List ℕ) (piece : Piece) : Type 0 where
  pub before : (i : ℕ) → i < piece.first → slice_index beside i < piece.from
  pub after : (i : ℕ) → piece.first ≤ i → i < piece.last → piece.from ≤ slice_index beside i

-- the cars at the places from `from` to before `to` move by their new speeds, and no others
pub record MovesCars (from to : ℕ) (cells speeds cells' speeds' : List ℕ) : Type 0 where
  pub cells_each : length cells' ≡ length cells
  pub speeds_each : length speeds' ≡ length speeds
  pub other_cells : (q : ℕ) → (q < from) ⊎ (to ≤ q) → slice_index cells' q ≡ slice_index cells q
  pub other_speeds : (q : ℕ) → (q < from) ⊎ (to ≤ q) → slice_index speeds' q ≡ slice_index speeds q
  pub moved : (q : ℕ) → from ≤ q → q < to → slice_index cells' q ≡ slice_index cells q + slice_index speeds' q
