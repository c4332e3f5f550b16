-- The motion of an array is the motion of the list of its cars.
use Rattle.std.specs.Prelude.{◌≡◌, ℕ, zero, suc, ◌+◌, ◌<◌, ◌≤◌, ◌==◌, max, true, false, cond, if◌then◌else◌, List, [], ◌∷◌, map, length, slice_index, refl}
use Rattle.std.specs.List.{range_with_len}
use Rattle.std.specs.Option.{option_or}
use Rattle.std.specs.declared.option.Option.{Option}
use Rattle.std.specs.declared.option.Option.TheVariants.{None, Some}
use Rattle.std.proofs.Common.{sym, ap, ◌∙◌, arith, inl, inr}
use Rattle.std.proofs.lemmas.Bool.{cases_lt}
use Rattle.std.proofs.lemmas.List.{length-map}
use Rattle.road_cells.specs.Array.{Array, Vehicle, vehicle_at, array}
use Rattle.road_cells.proofs.ArrayPlaces.{vehicle_at-array, past_array, array-same}
use Rattle.road_cells.specs.Cars.{cars_from, cars_of, cell_at, vehicle_of, AreRisingFrom, AreRising, vehicle_among, end_of, array_of}
use Rattle.road_cells.proofs.CarLists.{vehicle_at-array_of, vehicle_among-past, rise-cars_from}
use Rattle.road_cells.proofs.CarsBefore.{before-cell_at}
use Rattle.road_cells.specs.declared.car.Car.{Car}
use Rattle.road_cells.specs.declared.car.TheConstants.{GREATEST_SPEED}
use Rattle.road_rules.specs.Motion.{car_after_motion, cars_after_motion, first_some, arrival_from, arrival_at, array_after_motion, speed_at, array_after_motion_at, MayMove}

-- each car at the speed that a function has for it
abbrev pub cars_driven : (ℕ → Vehicle → ℕ) → List Car → List Car
cars_driven speed [] = []
cars_driven speed (car ∷ cars) = car_after_motion (speed car.cell (vehicle_of car)) car ∷ cars_driven speed cars

-- ---- a search of the cells is a search of the cars

-- the first value that a function has for the cars
first_car : {X : Type 0} → (ℕ → Vehicle → Option X) → List Car → Option X
first_car h [] = None
first_car h (car ∷ cars) = option_or (h car.cell (vehicle_of car)) (first_car h cars)

-- the value of a function for a vehicle, if there is one
if_there : {X : Type 0} → (Vehicle → Option X) → Option Vehicle → Option X
if_there h None = None
if_there h (Some v) = h v

module _ {X : Type 0} (h : ℕ → Vehicle → Option X) where
  -- searching the cells from k on finds the same as searching the cars
  searched : (n k : ℕ) (places : Array) (at : ℕ → Option Vehicle) → length places ≤ n → ((j : ℕ) → at (k + j) ≡ vehicle_at places j) → first_some (λ c. if_there (h c) (at c)) (range_with_len k n) ≡ first_car h (cars_from k places)
  unfolding first_car if_there
  searched zero k [] at few same = refl
  searched zero k (x ∷ places) at few same = absurd (omega arith)
  searched (suc n) k [] at few same =
      let here : k + 0 ≡ k = omega arith in
      ap (λ o. option_or (if_there (h k) o) (first_some (λ c. if_there (h c) (at c)) (range_with_len (k + 1) n))) (ap at (sym here) ∙ same 0)
      ∙ searched n (k + 1) [] at (omega arith) (λ j. let next : (k + 1) + j ≡ k + suc j = omega arith in ap at next ∙ same (suc j))
  searched (suc n) k (x ∷ places) at few same =
      let here : k + 0 ≡ k = omega arith in
      ap (λ o. option_or (if_there (h k) o) (first_some (λ c. if_there (h c) (at c)) (range_with_len (k + 1) n))) (ap at (sym here) ∙ same 0)
      ∙ ap (option_or (if_there (h k) x)) (searched n (k + 1) places at (omega arith) (λ j. let next : (k + 1) + j ≡ k + suc j = omega arith in ap at next ∙ same (suc j)))
      ∙ split x
    where
      split : (x : Option Vehicle) → option_or (if_there (h k) x) (first_car h (cars_from (k + 1) places)) ≡ first_car h (cars_from k (x ∷ places))
      split None = refl
      split (Some v) = refl

-- the vehicle of cell c at its new speed, if that brings it to cell j
comes : (ℕ → Vehicle → ℕ) → ℕ → ℕ → Vehicle → Option Vehicle
comes speed j c v = if c + speed c v == j then Some (record { number = v.number; speed = speed c v }) else None

arrival_from-comes : (speed : ℕ → Vehicle → ℕ) (j c : ℕ) (o : Option Vehicle) → arrival_from j c (speed c) o ≡ if_there (comes speed j c) o
unfolding comes if_there
arrival_from-comes speed j c None = refl
arrival_from-comes speed j c (Some v) = refl

first_some-same : {X : Type 0} (f g : ℕ → Option X) (cs : List ℕ) → ((c : ℕ) → f c ≡ g c) → first_some f cs ≡ first_some g cs
first_some-same f g [] same = refl
first_some-same f g (c ∷ cs) same = λ i. option_or (same c i) (first_some-same f g cs same i)

-- the first car whose speed brings it to cell j is there once each car has advanced
first_car-comes : (speed : ℕ → Vehicle → ℕ) (j : ℕ) (cars : List Car) → first_car (comes speed j) cars ≡ vehicle_among j (cars_driven speed cars)
unfolding first_car comes
first_car-comes speed j [] = refl
first_car-comes speed j (car ∷ cars) =
    let v = speed car.cell (vehicle_of car) in
    elim (car.cell + v == j) as (λ b. option_or (cond b (Some (record { number = car.number; speed = v })) None) (first_car (comes speed j) cars) ≡ cond b (Some (record { number = car.number; speed = v })) (vehicle_among j (cars_driven speed cars))) [ true ↦ refl | false ↦ first_car-comes speed j cars ]

-- the vehicle that arrives at a cell is the vehicle there once each car has advanced
pub arrival_at-vehicle_among : (speed : ℕ → Vehicle → ℕ) (a : Array) (j : ℕ) → arrival_at speed a j ≡ vehicle_among j (cars_driven speed (cars_of a))
arrival_at-vehicle_among speed a j =
    first_some-same _ _ (range_with_len 0 (length a)) (λ c. arrival_from-comes speed j c (vehicle_at a c))
    ∙ searched (comes speed j) (length a) 0 a (vehicle_at a) (omega arith) (λ k. let here : 0 + k ≡ k = omega arith in ap (vehicle_at a) here)
    ∙ first_car-comes speed j (cars_of a)

-- ---- the speed of a car is the speed at its place in the list

-- cars driven by a function that gives each car the speed at its place are the cars after motion at these speeds
pub advanced-at : (cars : List Car) (speeds : List ℕ) (f : ℕ → ℕ) → length speeds ≡ length cars → ((k : ℕ) → k < length cars → f (cell_at cars k) ≡ slice_index speeds k) → cars_driven (λ c v. f c) cars ≡ cars_after_motion speeds cars
advanced-at [] [] f long is = refl
advanced-at [] (v ∷ speeds) f long is = refl
advanced-at (car ∷ cars) [] f long is = absurd (omega arith)
advanced-at (car ∷ cars) (v ∷ speeds) f long is = λ i. car_after_motion (is 0 (omega arith) i) car ∷ advanced-at cars speeds f (omega arith) (λ k below. is (suc k) (omega arith)) i

-- the cars after motion at speeds in their order
pub advanced-speed_at : (a : Array) (speeds : List ℕ) → length speeds ≡ length (cars_of a) → cars_driven (λ c v. speed_at a speeds c) (cars_of a) ≡ cars_after_motion speeds (cars_of a)
advanced-speed_at a speeds long =
    advanced-at (cars_of a) speeds (speed_at a speeds) long (λ k below. ap (slice_index speeds) (before-cell_at 0 (cars_of a) k (rise-cars_from 0 a) below))

-- speeds that a function gives, listed in the order of the cars
advanced-listed : (speed : ℕ → Vehicle → ℕ) (cars : List Car) → cars_after_motion (map (λ car. speed car.cell (vehicle_of car)) cars) cars ≡ cars_driven speed cars
advanced-listed speed [] = refl
advanced-listed speed (car ∷ cars) = ap (λ rest. car_after_motion (speed car.cell (vehicle_of car)) car ∷ rest) (advanced-listed speed cars)

-- motion at the speeds that a function gives, listed in the order of the cars, is motion by the function
pub array_after_motion_at-listed : (speed : ℕ → Vehicle → ℕ) (a : Array) → array_after_motion_at (map (λ car. speed car.cell (vehicle_of car)) (cars_of a)) a ≡ array_after_motion speed a
array_after_motion_at-listed speed a = ap (array (length a + GREATEST_SPEED)) (λ i j. each j i)
  where
    each : (j : ℕ) → arrival_at (λ c v. speed_at a (map (λ car. speed car.cell (vehicle_of car)) (cars_of a)) c) a j ≡ arrival_at speed a j
    each j =
        let vs = map (λ car. speed car.cell (vehicle_of car)) (cars_of a) in
        arrival_at-vehicle_among (λ c v. speed_at a vs c) a j
        ∙ ap (vehicle_among j) (advanced-speed_at a vs (length-map (cars_of a) (λ car. speed car.cell (vehicle_of car))) ∙ advanced-listed speed (cars_of a))
        ∙ sym (arrival_at-vehicle_among speed a j)

-- ---- the cars after motion make the array after motion

-- each car's cell is below the end of its array
pub cell_at-end : (m : ℕ) (places : Array) (k : ℕ) → k < length (cars_from m places) → cell_at (cars_from m places) k < m + length places
cell_at-end m [] k below = absurd (omega arith)
cell_at-end m (None ∷ places) k below = let rest = cell_at-end (m + 1) places k below in omega arith
cell_at-end m (Some v ∷ places) zero below = omega arith
cell_at-end m (Some v ∷ places) (suc k) below = let rest = cell_at-end (m + 1) places k (omega arith) in omega arith

-- no car ends farther past the old end than the maximum speed
end-cars_after_motion : (cars : List Car) (speeds : List ℕ) (n : ℕ) → ((k : ℕ) → k < length cars → cell_at cars k < n) → ((k : ℕ) → k < length speeds → slice_index speeds k ≤ GREATEST_SPEED) → end_of (cars_after_motion speeds cars) ≤ n + GREATEST_SPEED
end-cars_after_motion [] speeds n low slow = omega arith
end-cars_after_motion (car ∷ cars) [] n low slow = omega arith
end-cars_after_motion (car ∷ cars) (v ∷ speeds) n low slow =
    let cell : car.cell < n = low 0 (omega arith) in
    let speed : v ≤ GREATEST_SPEED = slow 0 (omega arith) in
    let rest = end-cars_after_motion cars speeds n (λ k below. low (suc k) (omega arith)) (λ k below. slow (suc k) (omega arith)) in
    most (car.cell + v + 1) (end_of (cars_after_motion speeds cars)) (n + GREATEST_SPEED) (omega arith) rest
  where
    most : (x y z : ℕ) → x ≤ z → y ≤ z → max x y ≤ z
    most x y z p q = omega arith

-- motion is the array of the cars that have advanced
pub array_after_motion_at-array_of : (a : Array) (speeds : List ℕ) → MayMove a speeds → array_after_motion_at speeds a ≡ array_of (cars_after_motion speeds (cars_of a))
array_after_motion_at-array_of a speeds may = array-same (length a + GREATEST_SPEED) (end_of cars) (arrival_at by_place a) (λ c. vehicle_among c cars) (λ j. elim (cases_lt j (length a + GREATEST_SPEED)) as (λ _. vehicle_at (array_after_motion_at speeds a) j ≡ vehicle_at (array_of cars) j) [
  | inl below ↦ vehicle_at-array (length a + GREATEST_SPEED) (arrival_at by_place a) j below ∙ here j ∙ sym (vehicle_at-array_of cars j)
  | inr past ↦ past_array (length a + GREATEST_SPEED) (arrival_at by_place a) j past ∙ sym (vehicle_among-past cars j (let low = ends in omega arith)) ∙ sym (vehicle_at-array_of cars j)
])
  where
    by_place : ℕ → Vehicle → ℕ
    by_place c v = speed_at a speeds c

    cars : List Car
    cars = cars_after_motion speeds (cars_of a)

    here : (j : ℕ) → arrival_at (λ c v. speed_at a speeds c) a j ≡ vehicle_among j (cars_after_motion speeds (cars_of a))
    here j = arrival_at-vehicle_among (λ c v. speed_at a speeds c) a j ∙ ap (vehicle_among j) (advanced-speed_at a speeds may.one_each)

    ends : end_of (cars_after_motion speeds (cars_of a)) ≤ length a + GREATEST_SPEED
    ends = end-cars_after_motion (cars_of a) speeds (length a) (λ k below. let low = cell_at-end 0 a k below in omega arith) (λ k below. may.slow_enough k 0 below)

-- cars that rise, the first of them at m or later, rise from m on
rise-further : (k m : ℕ) (cars : List Car) → AreRisingFrom k cars → (0 < length cars → m ≤ cell_at cars 0) → AreRisingFrom m cars
rise-further k m [] rise from = tt
rise-further k m (car ∷ cars) rise from = (from (omega arith), rise.1)

-- cars that stop before the next one still rise
rise-advanced : (m : ℕ) (cars : List Car) (speeds : List ℕ) → AreRisingFrom m cars → length speeds ≡ length cars → ((k : ℕ) → suc k < length speeds → cell_at cars k + slice_index speeds k < cell_at cars (suc k)) → AreRisingFrom m (cars_after_motion speeds cars)
rise-advanced m [] speeds rise long apart = tt
rise-advanced m (car ∷ cars) [] rise long apart = tt
rise-advanced m (car ∷ cars) (v ∷ speeds) rise long apart = (
  let from = rise.0 in omega arith,
  rise-advanced (car.cell + v + 1) cars speeds
      (rise-further (car.cell + 1) (car.cell + v + 1) cars rise.1 (λ some. let next : car.cell + v < cell_at cars 0 = apart 0 (omega arith) in omega arith))
      (omega arith) (λ k below. apart (suc k) (omega arith)),
)

-- cars that may move still rise
pub rise-cars_after_motion : (a : Array) (speeds : List ℕ) → MayMove a speeds → AreRising (cars_after_motion speeds (cars_of a))
rise-cars_after_motion a speeds may = rise-advanced 0 (cars_of a) speeds (rise-cars_from 0 a) may.one_each (λ k below. let next : k + 1 ≡ suc k = omega arith in let free = may.apart k (omega arith) in let same = ap (cell_at (cars_of a)) next in omega arith)

-- if no speed is above the maximum, each place of the array after motion holds the vehicle that arrives there
pub vehicle_at-array_after_motion : (speed : ℕ → Vehicle → ℕ) (a : Array) (j : ℕ) → ((c : ℕ) (v : Vehicle) → speed c v ≤ GREATEST_SPEED) → vehicle_at (array_after_motion speed a) j ≡ arrival_at speed a j
vehicle_at-array_after_motion speed a j slow = elim (cases_lt j (length a + GREATEST_SPEED)) as (λ _. vehicle_at (array_after_motion speed a) j ≡ arrival_at speed a j) [
  | inl below ↦ vehicle_at-array (length a + GREATEST_SPEED) (arrival_at speed a) j below
  | inr past ↦
      let low = end-advanced (cars_of a) (length a) (λ k below. let cell = cell_at-end 0 a k below in omega arith) in
      past_array (length a + GREATEST_SPEED) (arrival_at speed a) j past ∙ sym (vehicle_among-past (cars_driven speed (cars_of a)) j (omega arith)) ∙ sym (arrival_at-vehicle_among speed a j)
]
  where
    end-advanced : (cars : List Car) (n : ℕ) → ((k : ℕ) → k < length cars → cell_at cars k < n) → end_of (cars_driven speed cars) ≤ n + GREATEST_SPEED
    end-advanced [] n low = omega arith
    end-advanced (car ∷ cars) n low =
        let cell : car.cell < n = low 0 (omega arith) in
        let most = slow car.cell (vehicle_of car) in
        let rest = end-advanced cars n (λ k below. low (suc k) (omega arith)) in omega arith
