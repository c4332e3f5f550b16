-- A row in which the cars of columns are marked.
use Rattle.std.specs.Prelude.{◌≡◌, ◌≢◌, ℕ, ◌+◌, ◌-◌, ◌<◌, ◌≤◌, List, length, replicate, slice_index, slice_range}
use Rattle.std.proofs.Common.{sym, ap, ◌∙◌, arith, refl, inl, inr}
use Rattle.road_cells.specs.Array.{Array, vehicle_at}
use Rattle.road_cells.specs.Cars.{cars_of, vehicle_among}
use Rattle.road_cells.specs.Gap.{is_blocked}
use Rattle.road_cells.specs.declared.car.TheConstants.{GREATEST_SPEED}
use Rattle.road_cells.proofs.CarLists.{vehicle_among-cars_from}
use Rattle.road_ends.specs.Row.{row_of}
use Rattle.road_ends.specs.declared.letters.TheConstants.{EMPTY, STANDING}
use Rattle.road_detector.specs.Rows.{blocked_letter, car_letter}
use Rattle.road_detector.proofs.MarkedRow.{HasDigits, made}
use Rattle.road_columns.specs.Private.CarsAt.{from_place}
use Rattle.road_columns.specs.Private.Held.{road_in}
use Rattle.road_columns.specs.Private.LooseWords.{AreFalling}
use Rattle.road_columns.proofs.ColumnPlaces.{range_at, range_long}
use Rattle.road_columns.proofs.HeldCars.{cars_of_held}
use Rattle.road_columns.proofs.HeldLists.{find}

module _ (cells speeds numbers : List ℕ) (head tail : ℕ) (falling : AreFalling cells head tail) where
  abbrev road : Array
  road = road_in cells speeds numbers head tail

  -- the speeds in the columns are digits if those of the road's cars are
  pub speed_digits : HasDigits road → (i : ℕ) → head ≤ i → i < tail → slice_index speeds i ≤ GREATEST_SPEED
  speed_digits digits i from below =
      let here : head + (i - head) ≡ i = omega arith in
      let at = ap (slice_index speeds) here in
      let stands = (cars_of_held cells speeds numbers head tail falling).stands (i - head) (omega arith) in
      let slow = digits (from_place cells head (i - head)) (record { number = from_place numbers head (i - head); speed = from_place speeds head (i - head) }) stands in omega arith

  -- each cell with a car has the letter of that car
  pub cars_marked : (blocked row : List ℕ)
      → ((i : ℕ) → i < tail - head → slice_index row (from_place cells head i) ≡ STANDING + from_place speeds head i)
      → ((c : ℕ) → ((i : ℕ) → i < tail - head → from_place cells head i ≢ c) → slice_index row c ≡ slice_index blocked c)
      → (c : ℕ) → slice_index row c ≡ car_letter (vehicle_among c (cars_of road)) (slice_index blocked c)
  cars_marked blocked row cars rest c =
      let zero_on : c ≡ 0 + c = omega arith in
      let among : vehicle_among c (cars_of road) ≡ vehicle_at road c = ap (λ k. vehicle_among k (cars_of road)) zero_on ∙ vehicle_among-cars_from 0 c road in
      let at = cars_of_held cells speeds numbers head tail falling in
      elim (find (from_place cells head) (from_place speeds head) (from_place numbers head) (tail - head) c) as (λ _. slice_index row c ≡ car_letter (vehicle_among c (cars_of road)) (slice_index blocked c)) [
        | inl here ↦
            ap (slice_index row) (sym here.2) ∙ cars here.0 here.1
            ∙ sym (ap (λ o. car_letter o (slice_index blocked c)) (among ∙ ap (vehicle_at road) (sym here.2) ∙ at.stands here.0 here.1))
        | inr none ↦ rest c none ∙ sym (ap (λ o. car_letter o (slice_index blocked c)) (among ∙ at.nobody c none))
      ]

  -- a row in which blocks, and then the cars, are marked is that of the road
  module _ (within : tail ≤ length cells) (as_many : length speeds ≡ length cells) (of_cells of_speeds : List ℕ) (cells_are : of_cells ≡ cells) (speeds_are : of_speeds ≡ speeds) where
    long : length (slice_range of_cells head tail) ≡ tail - head
    long = let many = ap length cells_are in range_long of_cells head tail (omega arith)

    cell_is : (i : ℕ) → i < tail - head → slice_index (slice_range of_cells head tail) i ≡ from_place cells head i
    cell_is i below = range_at of_cells head tail i below ∙ ap (λ xs. slice_index xs (head + i)) cells_are

    speed_is : (i : ℕ) → i < tail - head → slice_index (slice_range of_speeds head tail) i ≡ from_place speeds head i
    speed_is i below = range_at of_speeds head tail i below ∙ ap (λ xs. slice_index xs (head + i)) speeds_are

    pub digits_of : HasDigits road → (i : ℕ) → i < length (slice_range of_speeds head tail) → slice_index (slice_range of_speeds head tail) i ≤ GREATEST_SPEED
    digits_of digits i below =
        let many = ap length speeds_are in
        let long = range_long of_speeds head tail (omega arith) in
        let is = speed_is i (omega arith) in
        let slow = speed_digits digits (head + i) (omega arith) (omega arith) in omega arith

    pub row_marked : (blocks empty blocked row : List ℕ) (n : ℕ) → empty ≡ replicate n EMPTY → length blocked ≡ length empty
        → ((c : ℕ) → c < length empty → slice_index blocked c ≡ blocked_letter (is_blocked blocks c) (slice_index empty c)) → length row ≡ length blocked
        → ((i : ℕ) → i < length (slice_range of_cells head tail) → slice_index row (slice_index (slice_range of_cells head tail) i) ≡ STANDING + slice_index (slice_range of_speeds head tail) i)
        → ((c : ℕ) → ((i : ℕ) → i < length (slice_range of_cells head tail) → slice_index (slice_range of_cells head tail) i ≢ c) → slice_index row c ≡ slice_index blocked c)
        → row ≡ row_of n blocks road
    row_marked blocks empty blocked row n is same marked longer cars rest =
        made blocks road empty blocked row (cars_of road) n refl is same marked longer (λ c below.
        cars_marked blocked row
        (λ i less. ap (slice_index row) (sym (cell_is i less)) ∙ cars i (let many = long in omega arith) ∙ ap (λ speed. STANDING + speed) (speed_is i less))
        (λ c none. rest c (λ i less here. let many = long in let less : i < tail - head = omega arith in none i less (sym (cell_is i less) ∙ here)))
        c)
