-- Laws of the cars of an array and of the array that cars make.
use Rattle.std.specs.Prelude.{◌≡◌, ◌≢◌, ℕ, zero, suc, ◌+◌, ◌<◌, ◌≤◌, cond, List, [], ◌∷◌, map, refl}
use Rattle.std.specs.List.{range_with_len}
use Rattle.std.specs.declared.option.Option.{Option}
use Rattle.std.specs.declared.option.Option.TheVariants.{None, Some}
use Rattle.std.proofs.Common.{sym, ap, subst, ◌∙◌, inl, inr, arith}
use Rattle.std.proofs.lemmas.Bool.{cases_eq, cases_lt, eq-eqb, ne_eqb}
use Rattle.road_cells.specs.Array.{Array, Vehicle, vehicle_at, array, array_of_places, with_first_place}
use Rattle.road_cells.proofs.ArrayPlaces.{vehicle_at-array, past_array, array-same, vehicle_at-array_of_places}
use Rattle.road_cells.specs.Cars.{cars_from, cars_of, car_of, vehicle_of, AreRisingFrom, AreRising, vehicle_among, end_of, array_of}
use Rattle.road_cells.specs.declared.car.Car.{Car}

-- a car at another cell does not change which vehicle is at this cell
pub vehicle_among-other : (car : Car) (cars : List Car) (c : ℕ) → car.cell ≢ c → vehicle_among c (car ∷ cars) ≡ vehicle_among c cars
vehicle_among-other car cars c apart = ap (λ b. cond b (Some (vehicle_of car)) (vehicle_among c cars)) (ne_eqb car.cell c apart)

-- a car at this cell is the vehicle here
pub vehicle_among-here : (car : Car) (cars : List Car) (c : ℕ) → car.cell ≡ c → vehicle_among c (car ∷ cars) ≡ Some (vehicle_of car)
vehicle_among-here car cars c same = ap (λ b. cond b (Some (vehicle_of car)) (vehicle_among c cars)) (eq-eqb car.cell c same)

-- no car is past the end
pub vehicle_among-past : (cars : List Car) (c : ℕ) → end_of cars ≤ c → vehicle_among c cars ≡ None
vehicle_among-past [] c past = refl
vehicle_among-past (car ∷ cars) c past = vehicle_among-other car cars c (λ same. absurd (omega arith)) ∙ vehicle_among-past cars c (omega arith)

-- cars that rise from a later cell on leave this cell empty
pub vehicle_among-below : (k c : ℕ) (cars : List Car) → AreRisingFrom k cars → c < k → vehicle_among c cars ≡ None
vehicle_among-below k c [] rise below = refl
vehicle_among-below k c (car ∷ cars) rise below =
    let from : k ≤ car.cell = rise.0 in
    vehicle_among-other car cars c (λ same. absurd (omega arith)) ∙ vehicle_among-below (car.cell + 1) c cars rise.1 (omega arith)

-- the array of cars has at each cell the car that is there
pub vehicle_at-array_of : (cars : List Car) (c : ℕ) → vehicle_at (array_of cars) c ≡ vehicle_among c cars
vehicle_at-array_of cars c = elim (cases_lt c (end_of cars)) as (λ _. vehicle_at (array_of cars) c ≡ vehicle_among c cars) [
  | inl below ↦ vehicle_at-array (end_of cars) (λ c. vehicle_among c cars) c below
  | inr past ↦ past_array (end_of cars) (λ c. vehicle_among c cars) c past ∙ sym (vehicle_among-past cars c past)
]

-- a place in front of others, which is dropped if it and they are empty, changes the cars only by its own car
cars_from-before : (k : ℕ) (x : Option Vehicle) (xs ys : Array) → ((j : ℕ) → cars_from j ys ≡ cars_from j xs) → cars_from k (with_first_place x ys) ≡ cars_from k (x ∷ xs)
cars_from-before k (Some v) xs ys same = ap (λ cars. car_of k v ∷ cars) (same (k + 1))
cars_from-before k None xs [] same = same (k + 1)
cars_from-before k None xs (y ∷ ys) same = same (k + 1)

-- dropping the empty places at the end drops no car
pub cars_from-array_of_places : (k : ℕ) (xs : List (Option Vehicle)) → cars_from k (array_of_places xs) ≡ cars_from k xs
cars_from-array_of_places k [] = refl
cars_from-array_of_places k (x ∷ xs) = cars_from-before k x xs (array_of_places xs) (λ j. cars_from-array_of_places j xs)

-- the cars of an array whose first place has a car, or has none
pub from_here : (k : ℕ) (v : Vehicle) (xs : Array) (x : Option Vehicle) → x ≡ Some v → cars_from k (x ∷ xs) ≡ car_of k v ∷ cars_from (k + 1) xs
from_here k v xs x taken = ap (λ y. cars_from k (y ∷ xs)) taken

pub from_later : (k : ℕ) (xs : Array) (x : Option Vehicle) → x ≡ None → cars_from k (x ∷ xs) ≡ cars_from (k + 1) xs
from_later k xs x empty = ap (λ y. cars_from k (y ∷ xs)) empty

-- places from cell k on that hold these cars have these cars
listed : (n k : ℕ) (cars : List Car) (f : ℕ → Option Vehicle) → ((c : ℕ) → k ≤ c → f c ≡ vehicle_among c cars) → AreRisingFrom k cars → end_of cars ≤ k + n → cars_from k (map f (range_with_len k n)) ≡ cars
listed zero k [] f is rise ends = refl
listed zero k (car ∷ cars) f is rise ends = absurd (let from = rise.0 in omega arith)
listed (suc n) k [] f is rise ends = from_later k (map f (range_with_len (k + 1) n)) (f k) (is k (omega arith)) ∙ listed n (k + 1) [] f (λ c le. is c (omega arith)) tt (omega arith)
listed (suc n) k (car ∷ cars) f is rise ends = elim (cases_eq car.cell k) as (λ _. cars_from k (map f (range_with_len k (suc n))) ≡ car ∷ cars) [
  | inl same ↦
      from_here k (vehicle_of car) (map f (range_with_len (k + 1) n)) (f k) (is k (omega arith) ∙ vehicle_among-here car cars k same)
      ∙ (λ i. record { number = car.number; cell = sym same i; speed = car.speed } ∷ listed n (k + 1) cars f (λ c le. is c (omega arith) ∙ vehicle_among-other car cars c (λ at. absurd (omega arith))) (subst (λ m. AreRisingFrom (m + 1) cars) same rise.1) (omega arith) i)
  | inr apart ↦
      let above : k + 1 ≤ car.cell = let le = rise.0 in omega arith in
      from_later k (map f (range_with_len (k + 1) n)) (f k) (is k (omega arith) ∙ vehicle_among-below (k + 1) k (car ∷ cars) (above, rise.1) (omega arith))
      ∙ listed n (k + 1) (car ∷ cars) f (λ c le. is c (omega arith)) (above, rise.1) (omega arith)
]

-- the cars that made an array are its cars, in order
pub cars_of-array_of : (cars : List Car) → AreRising cars → cars_of (array_of cars) ≡ cars
cars_of-array_of cars rise = cars_from-array_of_places 0 (map (λ c. vehicle_among c cars) (range_with_len 0 (end_of cars))) ∙ listed (end_of cars) 0 cars (λ c. vehicle_among c cars) (λ c le. refl) rise (omega arith)

-- the cars of any list of places rise
pub rise-cars_from : (k : ℕ) (places : List (Option Vehicle)) → AreRisingFrom k (cars_from k places)
rise-cars_from k [] = tt
rise-cars_from k (None ∷ places) = later k (cars_from (k + 1) places) (rise-cars_from (k + 1) places)
  where
    later : (k : ℕ) (cars : List Car) → AreRisingFrom (k + 1) cars → AreRisingFrom k cars
    later k [] rise = tt
    later k (car ∷ cars) rise = ((let le = rise.0 in omega arith), rise.1)
rise-cars_from k (Some v ∷ places) = ((omega arith), rise-cars_from (k + 1) places)

-- the car of a list of places at a cell
pub vehicle_among-cars_from : (k j : ℕ) (places : List (Option Vehicle)) → vehicle_among (k + j) (cars_from k places) ≡ vehicle_at places j
vehicle_among-cars_from k j [] = refl
vehicle_among-cars_from k zero (None ∷ places) = vehicle_among-below (k + 1) (k + 0) (cars_from (k + 1) places) (rise-cars_from (k + 1) places) (omega arith)
vehicle_among-cars_from k zero (Some v ∷ places) = vehicle_among-here (car_of k v) (cars_from (k + 1) places) (k + 0) (omega arith)
vehicle_among-cars_from k (suc j) (None ∷ places) = let next : k + suc j ≡ (k + 1) + j = omega arith in ap (λ c. vehicle_among c (cars_from (k + 1) places)) next ∙ vehicle_among-cars_from (k + 1) j places
vehicle_among-cars_from k (suc j) (Some v ∷ places) =
    let next : k + suc j ≡ (k + 1) + j = omega arith in
    vehicle_among-other (car_of k v) (cars_from (k + 1) places) (k + suc j) (λ same. absurd (omega arith)) ∙ ap (λ c. vehicle_among c (cars_from (k + 1) places)) next ∙ vehicle_among-cars_from (k + 1) j places

-- the cars of a tabulated array make it again
pub array_of-cars_from : (n : ℕ) (f : ℕ → Option Vehicle) → array_of (cars_from 0 (map f (range_with_len 0 n))) ≡ array n f
array_of-cars_from n f = array-same (end_of cars) n (λ c. vehicle_among c cars) f (λ j.
    let here : 0 + j ≡ j = omega arith in
    vehicle_at-array_of cars j ∙ ap (λ c. vehicle_among c cars) (sym here) ∙ vehicle_among-cars_from 0 j (map f (range_with_len 0 n)) ∙ sym (vehicle_at-array_of_places (map f (range_with_len 0 n)) j))
  where
    cars : List Car
    cars = cars_from 0 (map f (range_with_len 0 n))
