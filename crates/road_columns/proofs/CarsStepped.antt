-- The columns after a step: the cars have moved, and the first has left if it reached the exit.
use Rattle.std.specs.Prelude.{◌≡◌, ℕ, ◌+◌, ◌-◌, ◌<◌, ◌≤◌, ◌⊎◌, List, length, slice_index, slice_range}
use Rattle.std.proofs.Common.{sym, ap, ◌∙◌, arith, refl, inl, inr, subst}
use Rattle.std.proofs.lemmas.Bool.{cases_lt}
use Rattle.road_plan.specs.Plan.{Plan, exit_start}
use Rattle.road_plan.specs.Settings.{Settings}
use Rattle.road_plan.specs.declared.parts.WordKind.{WordKind}
use Rattle.road_cells.specs.Array.{Array, vehicle_at}
use Rattle.road_ends.specs.Input.{input_next}
use Rattle.road_ends.specs.Speed.{speeds}
use Rattle.road_columns.specs.Private.CarsAt.{from_place}
use Rattle.road_columns.specs.Columns.{AreColumnsOf, mirrored}
use Rattle.road_columns.specs.Private.Entered.{EnteredCar}
use Rattle.road_columns.specs.Private.Entering.{ArePlacesFrom, place_on}
use Rattle.road_columns.specs.Private.LooseWords.{HaveLooseWords, IsPackedFrom}
use Rattle.road_columns.specs.Private.Step.{AreCarsInColumn}
use Rattle.road_columns.proofs.ColumnEntries.{same_columns}
use Rattle.road_columns.proofs.ColumnPlaces.{cars_of_ranges, ranges_of_cars, same_place}
use Rattle.road_columns.proofs.LooseWords.{loose_moved}
use Rattle.road_columns.proofs.PlacesMoved.{falling_moved, places_moved_on}
use Rattle.road_columns.proofs.StepColumns.{columns_stepped}

-- columns depend only on the values at the places of the cars, so other lists with these values do as well
pub columns_same : (a : Array) (cells cells' vs numbers : List ℕ) (head tail : ℕ) → tail ≤ length cells → tail ≤ length cells' → ((i : ℕ) → head ≤ i → i < tail → slice_index cells' i ≡ slice_index cells i)
    → AreColumnsOf a (slice_range cells head tail) (slice_range vs head tail) (slice_range numbers head tail) → AreColumnsOf a (slice_range cells' head tail) (slice_range vs head tail) (slice_range numbers head tail)
columns_same a cells cells' vs numbers head tail within within' same columns =
    ranges_of_cars a cells' vs numbers head tail within'
    (same_columns (vehicle_at a) (tail - head) (tail - head) (from_place cells head) (from_place vs head) (from_place numbers head) (from_place cells' head) (from_place vs head) (from_place numbers head) refl
    (λ i below. same (head + i) (omega arith) (omega arith)) (λ _ _. refl) (λ _ _. refl)
    (cars_of_ranges a cells vs numbers head tail within columns))

pub places_same : (cells cells' : List ℕ) (head tail : ℕ) (sites places : List ℕ) → ((i : ℕ) → head ≤ i → i < tail → slice_index cells' i ≡ slice_index cells i)
    → ArePlacesFrom cells head tail sites places → ArePlacesFrom cells' head tail sites places
places_same cells cells' head tail sites places same are = record {
  as_many = are.as_many;
  from = are.from;
  each = λ d below. same_place (tail - head) (tail - head) (from_place cells head) (from_place cells' head) (slice_index sites d) (slice_index places d - head) (slice_index places d - head) refl refl
      (λ k inside. same (head + k) (omega arith) (omega arith)) (are.each d below);
}

packed_same : (head tail m : ℕ) (cells cells' : List ℕ) (place : ℕ) → place < tail → ((i : ℕ) → head ≤ i → i < tail → slice_index cells' i ≡ slice_index cells i)
    → IsPackedFrom head m cells place → IsPackedFrom head m cells' place
packed_same head tail m cells cells' place below same is =
    let there = is.there in
    record { there = is.there; packed = same (place - m) (omega arith) (omega arith) ∙ is.packed ∙ ap (λ n. n + m) (sym (same place (omega arith) below)) }

pub words_same : (kind : WordKind) (first width k : ℕ) (rows : List ℕ) (entered : List EnteredCar) (head tail : ℕ) (cells cells' : List ℕ) (number : ℕ → ℕ)
    → ((i : ℕ) → head ≤ i → i < tail → slice_index cells' i ≡ slice_index cells i)
    → HaveLooseWords kind first width k rows entered head tail cells number → HaveLooseWords kind first width k rows entered head tail cells' number
words_same kind first width k rows entered head tail cells cells' number same have = record {
  in_rows = λ place column r low high of_rows loose. have.in_rows place column r low high of_rows (λ is. loose (packed_same head tail (64 - k) cells cells' place high same is));
  in_own = have.in_own;
}

-- the columns before the motion, the new speeds, and the cells after the motion and once the first has left
module _ (p : Plan) (cells vs moved_cells left_cells : List ℕ) (head result tail : ℕ) (short : p.cells ≤ 65520) (cars : AreCarsInColumn p head tail cells)
    (long : length moved_cells ≡ length cells) (long' : length left_cells ≡ length cells) (from : head ≤ result) (to : result ≤ head + 1) (order : result ≤ tail)
    (moved : (i : ℕ) → head ≤ i → i < tail → slice_index moved_cells i ≡ slice_index cells i + slice_index vs i)
    (apart : (i : ℕ) → head ≤ i → i + 1 < tail → slice_index moved_cells (i + 1) < slice_index cells i)
    (others : (i : ℕ) → (i < head) ⊎ (tail ≤ i) → slice_index moved_cells i ≡ slice_index cells i)
    (kept : (i : ℕ) → i < head → slice_index left_cells i ≡ slice_index moved_cells i)
    (rest : (i : ℕ) → result ≤ i → slice_index left_cells i ≡ slice_index moved_cells i)
    (front : result ≡ head + 1 → slice_index left_cells (result - 1) ≡ 65535)
    (left : (i : ℕ) → head ≤ i → i < result → exit_start p ≤ slice_index moved_cells i)
    (stay : (i : ℕ) → result ≤ i → i < tail → slice_index moved_cells i < exit_start p) where
  pub cars_stepped : AreCarsInColumn p result tail left_cells
  cars_stepped =
      let low = cars.low in
      let inside = cars.inside in
      record {
        low = omega arith;
        order = order;
        inside = omega arith;
        front = elim (cases_lt head result) as (λ _. p.cells + 10 ≤ slice_index left_cells (result - 1)) [
          | inl gone ↦ let far = front (omega arith) in omega arith
          | inr none ↦
              let same : result - 1 ≡ head - 1 = omega arith in
              let at = ap (slice_index left_cells) same in
              let a = kept (head - 1) (omega arith) in
              let b = others (head - 1) (inl (omega arith)) in
              let far = cars.front in omega arith
        ];
        behind = rest tail order ∙ others tail (inr (omega arith)) ∙ cars.behind;
        falling = λ i above below.
            let fall = falling_moved cells vs moved_cells head result tail order from to moved apart (others tail (inr (omega arith)) ∙ cars.behind) i above below in
            let a = rest i above in
            let b = rest (i + 1) (omega arith) in omega arith;
        before_exit = λ i above below. let a = rest i above in let b = stay i above below in omega arith;
      }

  pub places_stepped : (sites places places' : List ℕ) → ArePlacesFrom cells head tail sites places → length places' ≡ length sites
      → ((d : ℕ) → d < length sites → slice_index sites d ≤ exit_start p)
      → ((d : ℕ) → d < length sites → slice_index places' d ≡ place_on moved_cells (slice_index sites d) (slice_index places d))
      → ArePlacesFrom left_cells result tail sites places'
  places_stepped sites places places' are as_many before is =
      places_same moved_cells left_cells result tail sites places' (λ i above below. rest i above)
      (places_moved_on cells vs moved_cells head result tail order from to moved apart (others tail (inr (omega arith)) ∙ cars.behind) sites places places' are as_many
      (λ d below gone. let site = before d below in let past = left head (omega arith) (omega arith) in omega arith) is)

  pub words_stepped : (kind : WordKind) (first width k : ℕ) (rows : List ℕ) (entered : List EnteredCar) (number : ℕ → ℕ) → k < 64
      → HaveLooseWords kind first width k rows entered head tail cells number → HaveLooseWords kind first width (k + 1) rows entered result tail left_cells number
  words_stepped kind first width k rows entered number early have =
      words_same kind first width (k + 1) rows entered result tail moved_cells left_cells number (λ i above below. rest i above)
      (loose_moved kind first width k rows entered head result tail cells vs moved_cells number early cars.falling from to moved apart have)

  pub road_stepped : (s : Settings) (t : ℕ) (b : Array) (old numbers : List ℕ) → length b ≤ p.cells
      → AreColumnsOf b (slice_range cells head tail) (slice_range old head tail) (slice_range numbers head tail)
      → ((i : ℕ) → head ≤ i → i < tail → slice_index vs i ≡ slice_index (speeds p s t b) (mirrored (tail - head) (i - head)))
      → AreColumnsOf (input_next (record { plan = p; settings = s; step = t; road = b })) (slice_range left_cells result tail) (slice_range vs result tail) (slice_range numbers result tail)
  road_stepped s t b old numbers on_road columns are =
      let inside = cars.inside in
      let out : head + (result - head) ≡ result = omega arith in
      columns_same (input_next (record { plan = p; settings = s; step = t; road = b })) moved_cells left_cells vs numbers result tail (omega arith) (omega arith) (λ i above below. rest i above)
      (subst (λ h. AreColumnsOf (input_next (record { plan = p; settings = s; step = t; road = b })) (slice_range moved_cells h tail) (slice_range vs h tail) (slice_range numbers h tail)) out
      (columns_stepped p s t b cells old numbers moved_cells vs head tail (result - head) on_road (omega arith) (omega arith) (omega arith) columns moved are
      (λ i above below. left i above (omega arith)) (λ i above below. stay i (omega arith) below)))
