-- The number of cars before a cell.
use Rattle.std.specs.Prelude.{◌≡◌, ℕ, zero, suc, ◌+◌, ◌≤◌, Bool, true, false, cond, List, [], ◌∷◌, length, nat_lt, refl}
use Rattle.std.specs.List.{slice_index_or, count_by}
use Rattle.std.specs.List.Sorted.{IsPartitionPoint, IsPartitionedBy}
use Rattle.std.proofs.Common.{ap, ◌∙◌, arith, inl, inr}
use Rattle.std.proofs.lemmas.Bool.{cases_lt}
use Rattle.std.proofs.lemmas.Bool.Decides.{nat_tests}
use Rattle.std.proofs.lemmas.List.{get_or_default}
use Rattle.std.proofs.lemmas.List.Sums.{sum_by-cons}
use Rattle.road_cells.specs.Cars.{AreRising, car_of, cell_at}
use Rattle.road_cells.proofs.CarPlaces.{rise-at}
use Rattle.road_cells.specs.declared.car.Car.{Car}

-- one more car, in front of the list, adds one to the count if it passes the test
count-first : (test : Car → Bool) (car : Car) (cars : List Car) (b : Bool) → test car ≡ b → count_by test (car ∷ cars) ≡ cond b 1 0 + count_by test cars
count-first test car cars b is = sum_by-cons (λ x. cond (test x) 1 0) car cars ∙ ap (λ b. cond {A = ℕ} b 1 0 + count_by test cars) is

-- if the first n pass a test and the others do not, n pass
pub count-parted : (test : Car → Bool) (cars : List Car) (n : ℕ) → n ≤ length cars → IsPartitionPoint (λ car. test car ≡ true) (λ car. test car ≡ false) cars n → count_by test cars ≡ n
count-parted test [] zero below point = refl
count-parted test [] (suc n) below point = absurd (omega arith)
count-parted test (car ∷ cars) zero below point =
    let first = count-first test car cars false (point.1 0 car (omega arith) (omega arith)) in
    let rest = count-parted test cars 0 (omega arith) ((λ i d below lt. absurd (omega arith)), (λ i d le below. point.1 (suc i) d (omega arith) (omega arith))) in
    omega arith
count-parted test (car ∷ cars) (suc n) below point =
    let first = count-first test car cars true (point.0 0 car (omega arith) (omega arith)) in
    let rest = count-parted test cars n (omega arith) ((λ i d below lt. point.0 (suc i) d (omega arith) (omega arith)), (λ i d le below. point.1 (suc i) d (omega arith) (omega arith))) in
    omega arith

-- a cell divides cars in rising cells
pub parted_by_cell : (cars : List Car) (cell : ℕ) → AreRising cars → IsPartitionedBy (λ car. nat_lt car.cell cell) cars
parted_by_cell cars cell rise i j d le below before = elim (cases_lt i j) as (λ _. nat_lt (slice_index_or cars i d).cell cell ≡ true) [
  | inl lt ↦
      let order = rise-at 0 cars i j rise lt below in
      let low : cell_at cars i ≡ (slice_index_or cars i d).cell = ap (λ car. car.cell) (get_or_default cars i (car_of 0 (record { number = 0; speed = 0 })) d (omega arith)) in
      let high : cell_at cars j ≡ (slice_index_or cars j d).cell = ap (λ car. car.cell) (get_or_default cars j (car_of 0 (record { number = 0; speed = 0 })) d below) in
      grind (arith, nat_tests)
  | inr ge ↦ let same : i ≡ j = omega arith in ap (λ k. nat_lt (slice_index_or cars k d).cell cell) same ∙ before
]
