-- The cars between two cells are a part of the list.
use Rattle.std.specs.Prelude.{◌≡◌, ℕ, zero, suc, ◌+◌, ◌-◌, ◌<◌, ◌≤◌, List, [], ◌∷◌, map, take, drop, refl}
use Rattle.std.specs.List.{range_with_len}
use Rattle.std.specs.declared.option.Option.{Option}
use Rattle.std.proofs.Common.{sym, ap, subst, ◌∙◌, arith, inl, inr}
use Rattle.std.proofs.lemmas.Bool.{cases_eq, cases_lt}
use Rattle.road_cells.specs.Array.{Array, Vehicle, vehicle_at}
use Rattle.road_cells.specs.Cars.{cars_from, cars_of, vehicle_of, AreRisingFrom, vehicle_among, cars_before}
use Rattle.road_cells.proofs.CarsBefore.{before-more, before-none}
use Rattle.road_cells.proofs.CarLists.{from_here, from_later, vehicle_among-other, vehicle_among-here, vehicle_among-below, vehicle_among-cars_from, rise-cars_from}
use Rattle.road_cells.specs.declared.car.Car.{Car}

-- places from cell k to k + n that hold these cars have the first of these cars
taken : (n k : ℕ) (cars : List Car) (f : ℕ → Option Vehicle) → ((c : ℕ) → k ≤ c → c < k + n → f c ≡ vehicle_among c cars) → AreRisingFrom k cars
    → cars_from k (map f (range_with_len k n)) ≡ take (cars_before (k + n) cars) cars
taken zero k cars f is rise = sym (ap (λ m. take m cars) (before-none (k + 0) k cars (omega arith) rise))
taken (suc n) k [] f is rise = from_later k (map f (range_with_len (k + 1) n)) (f k) (is k (omega arith) (omega arith)) ∙ taken n (k + 1) [] f (λ c le lt. is c (omega arith) (omega arith)) tt
taken (suc n) k (car ∷ cars) f is rise = elim (cases_eq car.cell k) as (λ _. cars_from k (map f (range_with_len k (suc n))) ≡ take (cars_before (k + suc n) (car ∷ cars)) (car ∷ cars)) [
  | inl same ↦
      let next : (k + 1) + n ≡ k + suc n = omega arith in
      let rest = taken n (k + 1) cars f (λ c le lt. is c (omega arith) (omega arith) ∙ vehicle_among-other car cars c (λ at. absurd (omega arith))) (subst (λ m. AreRisingFrom (m + 1) cars) same rise.1) in
      from_here k (vehicle_of car) (map f (range_with_len (k + 1) n)) (f k) (is k (omega arith) (omega arith) ∙ vehicle_among-here car cars k same)
      ∙ (λ i. record { number = car.number; cell = sym same i; speed = car.speed } ∷ (rest ∙ ap (λ m. take (cars_before m cars) cars) next) i)
      ∙ sym (ap (λ m. take m (car ∷ cars)) (before-more (k + suc n) car cars (omega arith)))
  | inr apart ↦
      let above : k + 1 ≤ car.cell = let le = rise.0 in omega arith in
      let next : (k + 1) + n ≡ k + suc n = omega arith in
      from_later k (map f (range_with_len (k + 1) n)) (f k) (is k (omega arith) (omega arith) ∙ vehicle_among-below (k + 1) k (car ∷ cars) (above, rise.1) (omega arith))
      ∙ taken n (k + 1) (car ∷ cars) f (λ c le lt. is c (omega arith) (omega arith)) (above, rise.1)
      ∙ ap (λ m. take (cars_before m (car ∷ cars)) (car ∷ cars)) next
]

-- the cars that are left if those before a cell are removed
record IsRest (from : ℕ) (cars rest : List Car) : Type 0 where
  rises : AreRisingFrom from rest
  stands : (c : ℕ) → from ≤ c → vehicle_among c rest ≡ vehicle_among c cars
  counts : (to : ℕ) → from ≤ to → cars_before to cars ≡ cars_before from cars + cars_before to rest

rest_of : (from k : ℕ) (cars : List Car) → AreRisingFrom k cars → IsRest from cars (drop (cars_before from cars) cars)
rest_of from k [] rise = record { rises = tt; stands = λ c le. refl; counts = λ to le. refl }
rest_of from k (car ∷ cars) rise = elim (cases_lt car.cell from) as (λ _. IsRest from (car ∷ cars) (drop (cars_before from (car ∷ cars)) (car ∷ cars))) [
  | inl lt ↦
      let rest = rest_of from (car.cell + 1) cars rise.1 in
      subst (λ m. IsRest from (car ∷ cars) (drop m (car ∷ cars))) (sym (before-more from car cars lt)) (record {
        rises = rest.rises;
        stands = λ c le. rest.stands c le ∙ sym (vehicle_among-other car cars c (λ same. absurd (omega arith)));
        counts = λ to le. let one = before-more from car cars lt in let all = before-more to car cars (omega arith) in let others = rest.counts to le in omega arith;
      })
  | inr ge ↦
      let none = before-none from from (car ∷ cars) (omega arith) ((omega arith), rise.1) in
      subst (λ m. IsRest from (car ∷ cars) (drop m (car ∷ cars))) (sym none) (record {
        rises = ((omega arith), rise.1);
        stands = λ c le. refl;
        counts = λ to le. omega arith;
      })
]

-- the cars between two cells, which a search has found
pub found_between : (a : Array) (from to : ℕ) → from ≤ to
    → take (cars_before to (cars_of a) - cars_before from (cars_of a)) (drop (cars_before from (cars_of a)) (cars_of a)) ≡ cars_from from (map (vehicle_at a) (range_with_len from (to - from)))
found_between a from to le =
    let rest = drop (cars_before from (cars_of a)) (cars_of a) in
    let is = rest_of from 0 (cars_of a) (rise-cars_from 0 a) in
    let far : from + (to - from) ≡ to = omega arith in
    let first = taken (to - from) from rest (vehicle_at a) (λ c le lt. let here : c ≡ 0 + c = omega arith in sym (is.stands c le ∙ ap (λ j. vehicle_among j (cars_of a)) here ∙ vehicle_among-cars_from 0 c a)) is.rises in
    let count : cars_before to (cars_of a) - cars_before from (cars_of a) ≡ cars_before (from + (to - from)) rest = let all = is.counts to le in let same = ap (λ m. cars_before m rest) far in omega arith in
    ap (λ m. take m rest) count ∙ sym first

-- if the first cell is not past the second, no more cars are before the first than before the second
pub before-le : (a : Array) (from to : ℕ) → from ≤ to → cars_before from (cars_of a) ≤ cars_before to (cars_of a)
before-le a from to le = let all = (rest_of from 0 (cars_of a) (rise-cars_from 0 a)).counts to le in omega arith
