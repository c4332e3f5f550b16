-- Marking blocks and cars in a row.
use Rattle.std.specs.Prelude.{◌≡◌, ℕ, zero, suc, ◌+◌, ◌<◌, ◌≤◌, Bool, true, false, cond, List, [], ◌∷◌, length, map, drop, replicate, slice_index, slice_set, refl}
use Rattle.std.specs.List.{All, slice_index_or, range_with_len}
use Rattle.std.specs.declared.option.Option.{Option}
use Rattle.std.specs.declared.option.Option.TheVariants.{None, Some}
use Rattle.std.proofs.Common.{sym, ap, subst, ◌∙◌, arith, inl, inr}
use Rattle.std.proofs.lemmas.Bool.{cases_eq}
use Rattle.std.proofs.lemmas.List.{get_or-set_same, get_or-set_other, ext_get_or, drop_more, get_or-replicate, length-replicate}
use Rattle.road_cells.specs.Array.{Array, Vehicle, vehicle_at}
use Rattle.road_cells.specs.Cars.{cars_of, cars_from, car_of, vehicle_of, cell_at, AreRisingFrom, AreRising, vehicle_among}
use Rattle.road_cells.proofs.CarLists.{vehicle_among-other, vehicle_among-here, vehicle_among-below, vehicle_among-cars_from, rise-cars_from}
use Rattle.road_cells.proofs.CarPlaces.{vehicle_among-at}
use Rattle.road_cells.specs.Gap.{is_blocked}
use Rattle.road_cells.specs.declared.car.Car.{Car}
use Rattle.road_cells.specs.declared.car.TheConstants.{GREATEST_SPEED}
use Rattle.road_ends.specs.Row.{letter, row_of}
use Rattle.road_ends.specs.declared.letters.TheConstants.{STANDING, BLOCKED, EMPTY}
use Rattle.road_detector.specs.Rows.{HaveDigits, blocked_letter, car_letter}

-- each car of an array has a speed that is a digit
abbrev pub HasDigits : Array → Type 0
HasDigits a = (c : ℕ) (car : Vehicle) → vehicle_at a c ≡ Some car → car.speed ≤ GREATEST_SPEED

-- drawing one more car leaves one less to draw
car_drawn : (row : List ℕ) (car : Car) (cars : List Car) (c : ℕ) → AreRisingFrom (car.cell + 1) cars → car.cell < length row → c < length row
    → car_letter (vehicle_among c cars) (slice_index (slice_set row car.cell (STANDING + car.speed)) c) ≡ car_letter (vehicle_among c (car ∷ cars)) (slice_index row c)
car_drawn row car cars c rise on below = elim (cases_eq car.cell c) as (λ _. car_letter (vehicle_among c cars) (slice_index (slice_set row car.cell (STANDING + car.speed)) c) ≡ car_letter (vehicle_among c (car ∷ cars)) (slice_index row c)) [
  | inl same ↦
      (λ i. car_letter (vehicle_among-below (car.cell + 1) c cars rise (omega arith) i) (slice_index (slice_set row car.cell (STANDING + car.speed)) (sym same i)))
      ∙ get_or-set_same row car.cell (STANDING + car.speed) 0 on
      ∙ sym (ap (λ o. car_letter o (slice_index row c)) (vehicle_among-here car cars c same))
  | inr apart ↦
      ap (car_letter (vehicle_among c cars)) (get_or-set_other row car.cell c (STANDING + car.speed) 0 (λ same. apart (sym same)))
      ∙ sym (ap (λ o. car_letter o (slice_index row c)) (vehicle_among-other car cars c apart))
]

-- a car past the row is not drawn
car_past : (row : List ℕ) (car : Car) (cars : List Car) (c : ℕ) → length row ≤ car.cell → c < length row → car_letter (vehicle_among c cars) (slice_index row c) ≡ car_letter (vehicle_among c (car ∷ cars)) (slice_index row c)
car_past row car cars c past below = sym (ap (λ o. car_letter o (slice_index row c)) (vehicle_among-other car cars c (λ same. absurd (omega arith))))

-- the cars after one of the list rise from it on
rise-behind : (k : ℕ) (cars : List Car) (i : ℕ) (car : Car) (rest : List Car) → AreRisingFrom k cars → drop i cars ≡ car ∷ rest → AreRisingFrom (car.cell + 1) rest
rise-behind k [] zero car rest rise is = let never : [] ≡ car ∷ rest = is in cc
rise-behind k [] (suc i) car rest rise is = let never : [] ≡ car ∷ rest = is in cc
rise-behind k (first ∷ cars) zero car rest rise is =
    let head : first ≡ car = cc in
    let tail : cars ≡ rest = cc in
    subst (λ (x : Car × List Car). AreRisingFrom (x.0.cell + 1) x.1) (λ i. (head i, tail i)) rise.1
rise-behind k (first ∷ cars) (suc i) car rest rise is = rise-behind (first.cell + 1) cars i car rest rise.1 is

-- if drawing the cars from a place on completes a row, then drawing the rest after the next car completes it too
module _ (cars : List Car) (i c letter : ℕ) (car : Car) (rise : AreRising cars) (below : i < length cars) (is : slice_index_or cars i car ≡ car) where
  split : drop i cars ≡ car ∷ drop (i + 1) cars
  split = drop_more cars i car below ∙ ap (λ x. x ∷ drop (i + 1) cars) is

  pub next_drawn : (row : List ℕ) → c < length row → car.cell < length row → car_letter (vehicle_among c (drop i cars)) (slice_index row c) ≡ letter
      → car_letter (vehicle_among c (drop (i + 1) cars)) (slice_index (slice_set row car.cell (STANDING + car.speed)) c) ≡ letter
  next_drawn row within on rest =
      car_drawn row car (drop (i + 1) cars) c (rise-behind 0 cars i car (drop (i + 1) cars) rise split) on within
      ∙ ap (λ cars. car_letter (vehicle_among c cars) (slice_index row c)) (sym split) ∙ rest

  pub next_past : (row : List ℕ) → c < length row → length row ≤ car.cell → car_letter (vehicle_among c (drop i cars)) (slice_index row c) ≡ letter → car_letter (vehicle_among c (drop (i + 1) cars)) (slice_index row c) ≡ letter
  next_past row within past rest =
      car_past row car (drop (i + 1) cars) c past within ∙ ap (λ cars. car_letter (vehicle_among c cars) (slice_index row c)) (sym split) ∙ rest

-- the letters of a row
letter-marked : (blocked : Bool) (o : Option Vehicle) → car_letter o (cond blocked BLOCKED EMPTY) ≡ letter blocked o
letter-marked true None = refl
letter-marked false None = refl
letter-marked true (Some v) = refl
letter-marked false (Some v) = refl

at_number : (f : ℕ → ℕ) (n a c : ℕ) → c < n → slice_index (map f (range_with_len a n)) c ≡ f (a + c)
at_number f zero a c below = absurd (omega arith)
at_number f (suc n) a zero below = let here : a ≡ a + 0 = omega arith in ap f here
at_number f (suc n) a (suc c) below = let next : (a + 1) + c ≡ a + suc c = omega arith in at_number f n (a + 1) c (omega arith) ∙ ap f next

length-row : (f : ℕ → ℕ) (n a : ℕ) → length (map f (range_with_len a n)) ≡ n
length-row f zero a = refl
length-row f (suc n) a = ap suc (length-row f n (a + 1))

-- a row with its blocks and cars marked is the row of the definition
row_marked : (blocks : List ℕ) (a : Array) (row : List ℕ) (n : ℕ) → length row ≡ n
    → ((c : ℕ) → c < n → slice_index row c ≡ car_letter (vehicle_among c (cars_of a)) (blocked_letter (is_blocked blocks c) EMPTY)) → row ≡ row_of n blocks a
row_marked blocks a row n long marked = ext_get_or 0 row (row_of n blocks a) (long ∙ sym (length-row (λ c. letter (is_blocked blocks c) (vehicle_at a c)) n 0)) (λ c below.
    let here : 0 + c ≡ c = omega arith in
    marked c (omega arith)
    ∙ ap (λ k. car_letter (vehicle_among k (cars_of a)) (blocked_letter (is_blocked blocks c) EMPTY)) (sym here)
    ∙ ap (λ o. car_letter o (blocked_letter (is_blocked blocks c) EMPTY)) (vehicle_among-cars_from 0 c a)
    ∙ letter-marked (is_blocked blocks c) (vehicle_at a c)
    ∙ ap (λ k. letter (is_blocked blocks k) (vehicle_at a k)) (sym here)
    ∙ sym (at_number (λ c. letter (is_blocked blocks c) (vehicle_at a c)) n 0 c (omega arith)))

-- the digits of an array are those of its cars
pub have_digits : (a : Array) → HasDigits a → HaveDigits (cars_of a)
have_digits a digits k d below =
    let zero_on : 0 + cell_at (cars_of a) k ≡ cell_at (cars_of a) k = omega arith in
    let there = vehicle_among-at 0 (cars_of a) k d (rise-cars_from 0 a) below in
    digits (cell_at (cars_of a) k) (vehicle_of (slice_index_or (cars_of a) k d)) (sym (vehicle_among-cars_from 0 (cell_at (cars_of a) k) a) ∙ ap (λ c. vehicle_among c (cars_of a)) zero_on ∙ there)

-- letters are ASCII
letter-small : (blocked : Bool) (o : Option Vehicle) → ((v : Vehicle) → o ≡ Some v → v.speed ≤ GREATEST_SPEED) → letter blocked o < 128
letter-small true None digits = omega arith
letter-small false None digits = omega arith
letter-small true (Some v) digits = let most = digits v refl in omega arith
letter-small false (Some v) digits = let most = digits v refl in omega arith

pub row_small : (blocks : List ℕ) (a : Array) (n : ℕ) → HasDigits a → All (λ b. b < 128) (row_of n blocks a)
row_small blocks a n digits = each n 0
  where
    each : (n k : ℕ) → All (λ b. b < 128) (map (λ c. letter (is_blocked blocks c) (vehicle_at a c)) (range_with_len k n))
    each zero k i d below = absurd (omega arith)
    each (suc n) k zero d below = letter-small (is_blocked blocks k) (vehicle_at a k) (λ v is. digits k v is)
    each (suc n) k (suc i) d below = each n (k + 1) i d (omega arith)

-- the row with its blocks and cars, made from an empty row
pub made : (blocks : List ℕ) (a : Array) (empty blocked row : List ℕ) (cars : List Car) (n : ℕ) → cars ≡ cars_of a → empty ≡ replicate n EMPTY
    → length blocked ≡ length empty → ((c : ℕ) → c < length empty → slice_index blocked c ≡ blocked_letter (is_blocked blocks c) (slice_index empty c))
    → length row ≡ length blocked → ((c : ℕ) → c < length blocked → slice_index row c ≡ car_letter (vehicle_among c cars) (slice_index blocked c))
    → row ≡ row_of n blocks a
made blocks a empty blocked row cars n all is long marked longer drawn =
    let size : length empty ≡ n = ap length is ∙ length-replicate n EMPTY in
    row_marked blocks a row n (longer ∙ long ∙ size) (λ c below.
    drawn c (omega arith)
    ∙ ap (λ cars. car_letter (vehicle_among c cars) (slice_index blocked c)) all
    ∙ ap (car_letter (vehicle_among c (cars_of a))) (marked c (omega arith) ∙ ap (blocked_letter (is_blocked blocks c)) (ap (λ xs. slice_index xs c) is ∙ get_or-replicate n c EMPTY 0 below)))

-- the digits of the cars are those of the array
pub from_cars : (k : ℕ) (places : Array) → HaveDigits (cars_from k places) → HasDigits places
from_cars k [] digits c car here = let never : None ≡ Some car = here in cc
from_cars k (None ∷ places) digits zero car here = let never : None ≡ Some car = here in cc
from_cars k (None ∷ places) digits (suc c) car here = from_cars (k + 1) places digits c car here
from_cars k (Some v ∷ places) digits zero car here = let same : v ≡ car = cc in subst (λ (v : Vehicle). v.speed ≤ GREATEST_SPEED) same (digits 0 (car_of k v) (omega arith))
from_cars k (Some v ∷ places) digits (suc c) car here = from_cars (k + 1) places (λ i d below. digits (suc i) d (omega arith)) c car here
