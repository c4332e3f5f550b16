-- Columns that are moved back keep their cars and the places of sites.
use Rattle.std.specs.Prelude.{◌≡◌, ◌≢◌, ℕ, ◌+◌, ◌-◌, ◌<◌, ◌≤◌, List, length, slice_index, slice_range}
use Rattle.std.proofs.Common.{sym, ap, ◌∙◌, arith, slice_set, get_or-set_other, get_or-set_same}
use Rattle.std.proofs.lemmas.List.{length-set}
use Rattle.road_plan.specs.Plan.{Plan}
use Rattle.road_cells.specs.Array.{Array, vehicle_at}
use Rattle.road_columns.specs.Columns.{AreColumnsOf}
use Rattle.road_columns.specs.Private.CarsAt.{from_place}
use Rattle.road_columns.specs.Private.Entering.{ArePlacesFrom}
use Rattle.road_columns.specs.Private.Step.{AreCarsInColumn}
use Rattle.road_columns.proofs.ColumnEntries.{same_columns}
use Rattle.road_columns.proofs.ColumnPlaces.{cars_of_ranges, ranges_of_cars, same_place}

-- a column with a cell in front of all and one behind all
abbrev pub closed : List ℕ → ℕ → List ℕ
closed xs end = slice_set (slice_set xs 7 65535) end 0

pub closed-kept : (xs : List ℕ) (end k : ℕ) → k ≢ 7 → k ≢ end → slice_index (closed xs end) k ≡ slice_index xs k
closed-kept xs end k a b = get_or-set_other (slice_set xs 7 65535) end k 0 0 (omega arith) ∙ get_or-set_other xs 7 k 65535 0 (omega arith)

pub closed-long : (xs : List ℕ) (end : ℕ) → length (closed xs end) ≡ length xs
closed-long xs end = length-set (slice_set xs 7 65535) end 0 ∙ length-set xs 7 65535

pub closed-front : (xs : List ℕ) (end : ℕ) → 7 < end → 7 < length xs → slice_index (closed xs end) 7 ≡ 65535
closed-front xs end after inside = get_or-set_other (slice_set xs 7 65535) end 7 0 0 (omega arith) ∙ get_or-set_same xs 7 65535 0 inside

pub closed-behind : (xs : List ℕ) (end : ℕ) → end < length xs → slice_index (closed xs end) end ≡ 0
closed-behind xs end inside = let size = length-set xs 7 65535 in get_or-set_same (slice_set xs 7 65535) end 0 0 (omega arith)

module _ (cells cells' : List ℕ) (head tail first end : ℕ) (order : head ≤ tail) (many : end ≡ first + (tail - head)) (some : 0 < first)
    (moved : (i : ℕ) → i < tail - head → slice_index cells' (first + i) ≡ slice_index cells (head + i)) where
  -- a value is at a place exactly if it was at the shifted place before
  pub stood : (i : ℕ) → first ≤ i → i < end → slice_index cells' i ≡ slice_index cells (head + (i - first))
  stood i from below =
      let here : first + (i - first) ≡ i = omega arith in
      ap (slice_index cells') (sym here) ∙ moved (i - first) (omega arith)

  pub cars_shifted : (p : Plan) → AreCarsInColumn p head tail cells → end < length cells' → p.cells + 10 ≤ slice_index cells' (first - 1) → slice_index cells' end ≡ 0
      → AreCarsInColumn p first end cells'
  cars_shifted p cars inside front behind = record {
    low = some;
    order = omega arith;
    inside = inside;
    front = front;
    behind = behind;
    falling = λ i from below.
        let a = stood i from (omega arith) in
        let b = stood (i + 1) (omega arith) below in
        let next : head + ((i + 1) - first) ≡ (head + (i - first)) + 1 = omega arith in
        let d = ap (slice_index cells) next in
        let fall = cars.falling (head + (i - first)) (omega arith) (omega arith) in omega arith;
    before_exit = λ i from below.
        let a = stood i from below in
        let low = cars.before_exit (head + (i - first)) (omega arith) (omega arith) in omega arith;
  }

  pub places_shifted : (sites places places' : List ℕ) → ArePlacesFrom cells head tail sites places → length places' ≡ length places → first ≤ head
      → ((d : ℕ) → d < length places → slice_index places' d ≡ slice_index places d - (head - first))
      → ArePlacesFrom cells' first end sites places'
  places_shifted sites places places' are long from moved_back =
      let size = are.as_many in
      record {
        as_many = long ∙ size;
        from = λ d below. let low = are.from d below in let is = moved_back d (omega arith) in omega arith;
        each = λ d below.
            let low = are.from d below in
            let is = moved_back d (omega arith) in
            same_place (tail - head) (end - first) (from_place cells head) (from_place cells' first) (slice_index sites d) (slice_index places d - head) (slice_index places' d - first)
            (omega arith) (omega arith) moved (are.each d below);
      }

  pub columns_shifted : (a : Array) (speeds speeds' numbers numbers' : List ℕ) → tail ≤ length cells → end ≤ length cells'
      → ((i : ℕ) → i < tail - head → slice_index speeds' (first + i) ≡ slice_index speeds (head + i))
      → ((i : ℕ) → i < tail - head → slice_index numbers' (first + i) ≡ slice_index numbers (head + i))
      → AreColumnsOf a (slice_range cells head tail) (slice_range speeds head tail) (slice_range numbers head tail)
      → AreColumnsOf a (slice_range cells' first end) (slice_range speeds' first end) (slice_range numbers' first end)
  columns_shifted a speeds speeds' numbers numbers' within within' of_speeds of_numbers columns =
      ranges_of_cars a cells' speeds' numbers' first end within'
      (same_columns (vehicle_at a) (tail - head) (end - first) (from_place cells head) (from_place speeds head) (from_place numbers head)
      (from_place cells' first) (from_place speeds' first) (from_place numbers' first) (omega arith)
      (λ i below. moved i (omega arith)) (λ i below. of_speeds i (omega arith)) (λ i below. of_numbers i (omega arith))
      (cars_of_ranges a cells speeds numbers head tail within columns))
