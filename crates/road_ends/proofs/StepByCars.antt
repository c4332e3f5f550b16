-- The step of an array is the step of its cars.
use Rattle.std.specs.Prelude.{◌≡◌, ℕ, zero, suc, ◌+◌, ◌-◌, ◌*◌, ◌/◌, ◌<◌, ◌≤◌, ◌&&◌, ◌||◌, true, false, cond, List, [], ◌∷◌, ◌++◌, length, map, take, is_some, nat_eq, nat_lt, slice_index, refl}
use Rattle.std.specs.List.{range_with_len}
use Rattle.std.specs.List.Sorted.{IsStrictlyIncreasing, IsNonDecreasing, IsPartitionPoint}
use Rattle.std.specs.Option.{option_map}
use Rattle.std.specs.declared.option.Option.{Option}
use Rattle.std.specs.declared.option.Option.TheVariants.{None, Some}
use Rattle.std.proofs.Common.{sym, ap, ◌∙◌, inl, inr, arith, append_assoc, append-nil}
use Rattle.std.proofs.Math.Nat.{div-lt_iff_lt-mul}
use Rattle.std.proofs.lemmas.Bool.{lt-ltb, cases_lt}
use Rattle.std.proofs.lemmas.Bool.Decides.{nat_tests}
use Rattle.std.proofs.lemmas.List.{get_or_default, get_or-map}
use Rattle.road_plan.specs.Plan.{Plan, exit_start, IsWithinLimits}
use Rattle.road_plan.specs.Settings.{Settings, Fits}
use Rattle.road_cells.specs.Array.{Array, Vehicle, vehicle_at, array}
use Rattle.road_cells.proofs.ArrayPlaces.{past_end, vehicle_at-array, past_array, array-same, array-agree}
use Rattle.road_cells.specs.Cars.{cars_of, cars_from, car_of, vehicle_of, cell_at, AreRising, AreRisingFrom, array_of, vehicle_among, end_of}
use Rattle.road_cells.proofs.CarLists.{rise-cars_from, vehicle_among-cars_from, vehicle_among-below, vehicle_at-array_of, vehicle_among-past}
use Rattle.road_cells.proofs.CarPlaces.{rise-at, vehicle_among-at}
use Rattle.road_cells.specs.Gap as cells
use Rattle.road_cells.specs.Gap.{is_blocked, free_before, free_cells}
use Rattle.road_cells.proofs.FreeCells.{free_before-same}
use Rattle.road_cells.specs.declared.car.Car.{Car}
use Rattle.road_cells.specs.declared.car.TheConstants.{GREATEST_SPEED}
use Rattle.road_rules.specs.Motion.{arrival_at, array_after_motion, array_after_motion_at, MayMove}
use Rattle.road_rules.proofs.MotionOfCars.{array_after_motion_at-listed, cell_at-end, vehicle_at-array_after_motion}
use Rattle.road_ends.specs.Speed.{is_taken_on_road, gap, speed, speeds, nth_car}
use Rattle.road_ends.specs.Run.{road_after_motion, road_before_exit}
use Rattle.road_ends.proofs.NoCollision.{blocked-below, cars-apart, speed-most}

-- numbers that strictly rise do not fall
climbs : (xs : List ℕ) (i n : ℕ) → IsStrictlyIncreasing xs → i + n < length xs → slice_index xs i ≤ slice_index xs (i + n)
climbs xs i zero rise below = let here : i + 0 ≡ i = omega arith in let same = ap (slice_index xs) here in omega arith
climbs xs i (suc n) rise below =
    let rest = climbs xs i n rise (omega arith) in
    let step = rise (i + n) (omega arith) in
    let road_after_motion : (i + n) + 1 ≡ i + suc n = omega arith in
    let same = ap (slice_index xs) road_after_motion in omega arith

pub not_falling : (xs : List ℕ) → IsStrictlyIncreasing xs → IsNonDecreasing xs
not_falling xs rise i j d le below =
    let far : i + (j - i) ≡ j = omega arith in
    let same = ap (slice_index xs) far in
    let climb = climbs xs i (j - i) rise (omega arith) in
    let low = get_or_default xs i d 0 (omega arith) in
    let high = get_or_default xs j d 0 below in omega arith

-- the zone of a cell of the road is one of the plan's zones
pub zone_below : (cells width c : ℕ) → 0 < width → c < cells → c / width < (cells - 1) / width + 1
zone_below cells width c wide on =
    let last : cells - 1 < ((cells - 1) / width + 1) * width = (div-lt_iff_lt-mul {k = width} {x = cells - 1} {y = (cells - 1) / width + 1} wide).0 (omega arith) in
    (div-lt_iff_lt-mul {k = width} {x = c} {y = (cells - 1) / width + 1} wide).1 (omega arith)

pub zone_in_plan : (p : Plan) (a : Array) (cars : List Car) (k width : ℕ) → IsWithinLimits p → length a ≤ p.cells → k < length (cars_of a) → cars ≡ cars_of a → width ≡ p.width → cell_at cars k / width < length p.zones
zone_in_plan p a cars k width limits long below all wide =
    let low = cell_at-end 0 a k below in
    let zone = zone_below p.cells p.width (cell_at (cars_of a) k) limits.wide (omega arith) in
    let each = limits.zone_each in
    let same : cell_at cars k / width ≡ cell_at (cars_of a) k / p.width = λ i. cell_at (all i) k / wide i in
    omega arith

-- if cars and blocks are on the road, a cell is taken on the road exactly if it is taken
taken-on_road : (p : Plan) (s : Settings) (a : Array) (k : ℕ) → Fits p s → length a ≤ p.cells → cells.is_taken s.blocks a k ≡ is_taken_on_road p s a k
taken-on_road p s a k fits long = elim (cases_lt k p.cells) as (λ _. cells.is_taken s.blocks a k ≡ is_taken_on_road p s a k) [
  | inl on ↦ ap (λ b. b && cells.is_taken s.blocks a k) (sym (lt-ltb k p.cells on))
  | inr past ↦ (λ i. is_some (past_end a k (omega arith) i) || not_blocked past i) ∙ ap (λ b. b && cells.is_taken s.blocks a k) (sym (not_lt k p.cells past))
]
  where
    not_lt : (m n : ℕ) → n ≤ m → nat_lt m n ≡ false
    not_lt m n le = grind (arith, nat_tests)

    not_blocked : p.cells ≤ k → is_blocked s.blocks k ≡ false
    not_blocked past = elim (is_blocked s.blocks k) as (λ b. is_blocked s.blocks k ≡ b → is_blocked s.blocks k ≡ false) [
      | true ↦ λ blocked. let below = blocked-below s.blocks p.cells k fits.blocks_on_road blocked in absurd (omega arith)
      | false ↦ λ free. free
    ] refl

-- the gap on the road is the gap of the cells
pub gap-free_cells : (p : Plan) (s : Settings) (a : Array) (c : ℕ) → Fits p s → length a ≤ p.cells → free_cells s.blocks a c ≡ gap p s a c
gap-free_cells p s a c fits long = free_before-same (cells.is_taken s.blocks a) (is_taken_on_road p s a) GREATEST_SPEED (c + 1) (λ k le lt. taken-on_road p s a k fits long)

-- the speeds of the definition let all cars move
pub may_move : (p : Plan) (s : Settings) (t : ℕ) (a : Array) → length a ≤ p.cells → MayMove a (speeds p s t a)
may_move p s t a long = record {
  one_each = one_each (cars_of a);
  slow_enough = λ k d below.
      let there : k < length (cars_of a) = let same = one_each (cars_of a) in omega arith in
      let is = get_or-map new (cars_of a) k nobody d there in
      let most = speed-most p s t a (nth_car (cars_of a) k).cell (vehicle_of (nth_car (cars_of a) k)) in omega arith;
  apart = λ k below.
      let same = one_each (cars_of a) in
      let is = get_or-map new (cars_of a) k nobody 0 (omega arith) in
      let there = vehicle_among-at 0 (cars_of a) (k + 1) nobody (rise-cars_from 0 a) (omega arith) in
      let stands = sym (vehicle_among-cars_from 0 (cell_at (cars_of a) (k + 1)) a) in
      let zero_on : 0 + cell_at (cars_of a) (k + 1) ≡ cell_at (cars_of a) (k + 1) = omega arith in
      let on = cell_at-end 0 a (k + 1) (omega arith) in
      let order = rise-at 0 (cars_of a) k (k + 1) (rise-cars_from 0 a) (omega arith) (omega arith) in
      let free = cars-apart p s t a (cell_at (cars_of a) k) (cell_at (cars_of a) (k + 1)) (vehicle_of (nth_car (cars_of a) k)) (vehicle_of (nth_car (cars_of a) (k + 1))) long (omega arith)
      (stands ∙ ap (λ c. vehicle_among c (cars_of a)) zero_on ∙ there) order in
      omega arith;
}
  where
    nobody : Car
    nobody = record { number = 0; cell = 0; speed = 0 }

    new : Car → ℕ
    new car = speed p s t a car.cell (vehicle_of car)

    one_each : (cars : List Car) → length (map (λ car. speed p s t a car.cell (vehicle_of car)) cars) ≡ length cars
    one_each [] = refl
    one_each (car ∷ cars) = ap suc (one_each cars)

-- motion at the speeds of the definition, then deletion, is the next array
pub left-array_after_motion_at : (p : Plan) (s : Settings) (t : ℕ) (a : Array) → road_before_exit p (array_after_motion_at (speeds p s t a) a) ≡ road_after_motion p s t a
left-array_after_motion_at p s t a =
    ap (road_before_exit p) (array_after_motion_at-listed (speed p s t a) a)
    ∙ array-agree (exit_start p) (vehicle_at (array_after_motion (speed p s t a) a)) (arrival_at (speed p s t a) a) (λ j below. vehicle_at-array_after_motion (speed p s t a) a j (speed-most p s t a))

-- the cars in front of the deleted zone
first_cars : (m n : ℕ) (cars : List Car) → AreRisingFrom m cars → AreRisingFrom m (take n cars)
first_cars m zero cars rise = tt
first_cars m (suc n) [] rise = tt
first_cars m (suc n) (car ∷ cars) rise = (rise.0, first_cars (car.cell + 1) n cars rise.1)

pub rise-take : (n : ℕ) (cars : List Car) → AreRising cars → AreRising (take n cars)
rise-take n cars rise = first_cars 0 n cars rise

module _ (end : ℕ) where
  kept : (m n : ℕ) (cars : List Car) (j : ℕ) → AreRisingFrom m cars → j < end → ((k : ℕ) → n ≤ k → k < length cars → end ≤ cell_at cars k) → vehicle_among j (take n cars) ≡ vehicle_among j cars
  kept m zero [] j rise before past = refl
  kept m (suc n) [] j rise before past = refl
  kept m zero (car ∷ cars) j rise before past =
      let far : end ≤ car.cell = past 0 (omega arith) (omega arith) in
      sym (vehicle_among-below car.cell j (car ∷ cars) ((omega arith), rise.1) (omega arith))
  kept m (suc n) (car ∷ cars) j rise before past = ap (λ o. cond (nat_eq car.cell j) (Some (vehicle_of car)) o) (kept (car.cell + 1) n cars j rise.1 before (λ k le below. past (suc k) (omega arith) (omega arith)))

  ends : (n : ℕ) (cars : List Car) → ((k : ℕ) → k < n → k < length cars → cell_at cars k < end) → end_of (take n cars) ≤ end
  ends zero cars low = omega arith
  ends (suc n) [] low = omega arith
  ends (suc n) (car ∷ cars) low =
      let here : car.cell < end = low 0 (omega arith) (omega arith) in
      let rest = ends n cars (λ k lt below. low (suc k) (omega arith) (omega arith)) in omega arith

  -- cutting the list where the deleted zone begins cuts the array there
  pub array_of-take : (n : ℕ) (cars : List Car) → AreRising cars → ((k : ℕ) → k < n → k < length cars → cell_at cars k < end) → ((k : ℕ) → n ≤ k → k < length cars → end ≤ cell_at cars k)
      → array_of (take n cars) ≡ array end (vehicle_at (array_of cars))
  array_of-take n cars rise low past = array-same (end_of (take n cars)) end (λ c. vehicle_among c (take n cars)) (vehicle_at (array_of cars)) (λ j. vehicle_at-array_of (take n cars) j ∙ (elim (cases_lt j end) as (λ _. vehicle_among j (take n cars) ≡ vehicle_at (array end (vehicle_at (array_of cars))) j) [
    | inl before ↦ kept 0 n cars j rise before past ∙ sym (vehicle_at-array_of cars j) ∙ sym (vehicle_at-array end (vehicle_at (array_of cars)) j before)
    | inr behind ↦ vehicle_among-past (take n cars) j (let last = ends n cars low in omega arith) ∙ sym (past_array end (vehicle_at (array_of cars)) j behind)
  ]))

-- visiting the cells of a tabulated array, car by car
module _ (f : ℕ → Option Vehicle) (n : ℕ) where
  -- the cars from a cell on
  unfoldable pub cars_left : ℕ → List Car
  cars_left cell = cars_from cell (map f (range_with_len cell (n - cell)))

  turn : (cell : ℕ) → cell < n → cars_left cell ≡ cars_from cell (f cell ∷ map f (range_with_len (cell + 1) (n - (cell + 1))))
  unfolding cars_left
  turn cell below = let road_before_exit : n - cell ≡ suc (n - (cell + 1)) = omega arith in ap (λ k. cars_from cell (map f (range_with_len cell k))) road_before_exit

  pub nobody_here : (cell : ℕ) (done all : List Car) → cell < n → None ≡ option_map (car_of cell) (f cell) → done ++ cars_left cell ≡ all → done ++ cars_left (cell + 1) ≡ all
  unfolding cars_left
  nobody_here cell done all below none rest = ap (λ cars. done ++ cars) (sym (turn cell below ∙ empty (f cell) none)) ∙ rest
    where
      empty : (o : Option Vehicle) → None ≡ option_map (car_of cell) o → cars_from cell (o ∷ map f (range_with_len (cell + 1) (n - (cell + 1)))) ≡ cars_from (cell + 1) (map f (range_with_len (cell + 1) (n - (cell + 1))))
      empty None none = refl
      empty (Some v) none = cc

  pub one_here : (cell : ℕ) (done now all : List Car) (car : Car) → cell < n → Some car ≡ option_map (car_of cell) (f cell) → now ≡ done ++ car ∷ [] → done ++ cars_left cell ≡ all → now ++ cars_left (cell + 1) ≡ all
  unfolding cars_left
  one_here cell done now all car below some new rest =
      ap (λ cars. cars ++ cars_left (cell + 1)) new ∙ append_assoc done (car ∷ []) (cars_left (cell + 1))
      ∙ ap (λ cars. done ++ cars) (sym (turn cell below ∙ taken (f cell) some)) ∙ rest
    where
      taken : (o : Option Vehicle) → Some car ≡ option_map (car_of cell) o → cars_from cell (o ∷ map f (range_with_len (cell + 1) (n - (cell + 1)))) ≡ car ∷ cars_from (cell + 1) (map f (range_with_len (cell + 1) (n - (cell + 1))))
      taken None some = cc
      taken (Some v) some = let same : car ≡ car_of cell v = cc in ap (λ c. c ∷ cars_from (cell + 1) (map f (range_with_len (cell + 1) (n - (cell + 1))))) (sym same)

  pub all_here : (cell : ℕ) (done all : List Car) → n ≤ cell → done ++ cars_left cell ≡ all → done ≡ all
  unfolding cars_left
  all_here cell done all past rest = let none : n - cell ≡ 0 = omega arith in sym (append-nil done) ∙ ap (λ k. done ++ cars_from cell (map f (range_with_len cell k))) (sym none) ∙ rest

  pub all_left : cars_left 0 ≡ cars_from 0 (map f (range_with_len 0 n))
  unfolding cars_left
  all_left = let all : n - 0 ≡ n = omega arith in ap (λ k. cars_from 0 (map f (range_with_len 0 k))) all

-- the cars before the deleted zone make the array without those in it
pub left-take : (p : Plan) (a : Array) (cars : List Car) (n : ℕ) → cars ≡ cars_of a → AreRising cars
    → IsPartitionPoint (λ car. nat_lt car.cell (exit_start p) ≡ true) (λ car. nat_lt car.cell (exit_start p) ≡ false) cars n → array_of (take n cars) ≡ road_before_exit p a
left-take p a cars n all rise point =
    array_of-take (exit_start p) n cars rise
    (λ k lt below. let test : nat_lt (cell_at cars k) (exit_start p) ≡ true = point.0 k (car_of 0 (record { number = 0; speed = 0 })) (omega arith) lt in grind (arith, nat_tests))
    (λ k le below. let test : nat_lt (cell_at cars k) (exit_start p) ≡ false = point.1 k (car_of 0 (record { number = 0; speed = 0 })) le below in grind (arith, nat_tests))
    ∙ array-agree (exit_start p) (vehicle_at (array_of cars)) (vehicle_at a) (λ j below.
    let here : j ≡ 0 + j = omega arith in
    vehicle_at-array_of cars j ∙ ap (vehicle_among j) all ∙ ap (λ c. vehicle_among c (cars_of a)) here ∙ vehicle_among-cars_from 0 j a)
