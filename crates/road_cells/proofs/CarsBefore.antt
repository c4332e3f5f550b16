-- Laws of the number of cars before a cell.
use Rattle.std.specs.Prelude.{◌≡◌, ℕ, zero, suc, ◌+◌, ◌<◌, ◌≤◌, cond, List, [], ◌∷◌, length, nat_lt, refl}
use Rattle.std.proofs.Common.{ap, ◌∙◌, arith, inl, inr}
use Rattle.std.proofs.lemmas.Bool.{cases_lt, lt-ltb, le-ltb}
use Rattle.std.proofs.lemmas.List.Sums.{sum_by-cons}
use Rattle.road_cells.specs.Cars.{cars_before, AreRisingFrom, cell_at}
use Rattle.road_cells.proofs.CarPlaces.{rise-from}
use Rattle.road_cells.specs.declared.car.Car.{Car}

before-step : (c : ℕ) (car : Car) (cars : List Car) → cars_before c (car ∷ cars) ≡ cond (nat_lt car.cell c) 1 0 + cars_before c cars
before-step c car cars = sum_by-cons (λ x. cond (nat_lt x.cell c) 1 0) car cars

-- a car before the cell adds one
pub before-more : (c : ℕ) (car : Car) (cars : List Car) → car.cell < c → cars_before c (car ∷ cars) ≡ suc (cars_before c cars)
before-more c car cars lt =
    let more : 1 + cars_before c cars ≡ suc (cars_before c cars) = omega arith in
    before-step c car cars ∙ ap (λ b. cond {A = ℕ} b 1 0 + cars_before c cars) (lt-ltb car.cell c lt) ∙ more

-- no car is before the cell if the cars rise from the cell on
pub before-none : (c k : ℕ) (cars : List Car) → c ≤ k → AreRisingFrom k cars → cars_before c cars ≡ 0
before-none c k [] le rise = refl
before-none c k (car ∷ cars) le rise =
    let from : k ≤ car.cell = rise.0 in
    let rest = before-none c (car.cell + 1) cars (omega arith) rise.1 in
    let none : 0 + cars_before c cars ≡ 0 = omega arith in
    before-step c car cars ∙ ap (λ b. cond {A = ℕ} b 1 0 + cars_before c cars) (le-ltb car.cell c (omega arith)) ∙ none

-- if cars rise, the cars before a cell are the first ones of the list
pub record IsFirstBehind (c : ℕ) (cars : List Car) (k : ℕ) : Type 0 where
  pub stands_before : k < cars_before c cars → cell_at cars k < c
  pub stands_behind : cars_before c cars ≤ k → c ≤ cell_at cars k

pub before-at : (c m : ℕ) (cars : List Car) (k : ℕ) → AreRisingFrom m cars → k < length cars → IsFirstBehind c cars k
before-at c m [] k rise below = absurd (omega arith)
before-at c m (car ∷ cars) zero rise below = elim (cases_lt car.cell c) as (λ _. IsFirstBehind c (car ∷ cars) zero) [
  | inl lt ↦ let one = before-more c car cars lt in record { stands_before = λ _. lt; stands_behind = λ le. absurd (omega arith) }
  | inr ge ↦ let none = before-none c c (car ∷ cars) (omega arith) ((omega arith), rise.1) in record { stands_before = λ lt. absurd (omega arith); stands_behind = λ _. ge }
]
before-at c m (car ∷ cars) (suc k) rise below = elim (cases_lt car.cell c) as (λ _. IsFirstBehind c (car ∷ cars) (suc k)) [
  | inl lt ↦
      let one = before-more c car cars lt in
      let rest = before-at c (car.cell + 1) cars k rise.1 (omega arith) in
      record { stands_before = λ less. rest.stands_before (omega arith); stands_behind = λ le. rest.stands_behind (omega arith) }
  | inr ge ↦
      let none = before-none c c (car ∷ cars) (omega arith) ((omega arith), rise.1) in
      let first = rise-from (car.cell + 1) cars k rise.1 (omega arith) in
      record { stands_before = λ lt. absurd (omega arith); stands_behind = λ _. omega arith }
]

-- the number of cars before the cell of the k-th car is k
pub before-cell_at : (m : ℕ) (cars : List Car) (k : ℕ) → AreRisingFrom m cars → k < length cars → cars_before (cell_at cars k) cars ≡ k
before-cell_at m [] k rise below = absurd (omega arith)
before-cell_at m (car ∷ cars) zero rise below = before-none car.cell car.cell (car ∷ cars) (omega arith) ((omega arith), rise.1)
before-cell_at m (car ∷ cars) (suc k) rise below =
    let further = rise-from (car.cell + 1) cars k rise.1 (omega arith) in
    before-more (cell_at cars k) car cars (omega arith) ∙ ap suc (before-cell_at (car.cell + 1) cars k rise.1 (omega arith))
