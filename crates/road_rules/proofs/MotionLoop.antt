-- The loop that advances the cars, one after the other.
use Rattle.std.specs.Prelude.{◌≡◌, ℕ, zero, suc, ◌<◌, ◌≤◌, List, [], ◌∷◌, ◌++◌, length, slice_index, slice_set}
use Rattle.std.specs.List.{slice_index_or}
use Rattle.std.proofs.Common.{sym, ap, refl, arith, take, drop}
use Rattle.road_cells.specs.Cars.{cell_at}
use Rattle.road_cells.specs.declared.car.Car.{Car}
use Rattle.road_rules.specs.Motion.{car_after_motion, cars_after_motion}

-- the first k cars have driven, and the others have not
abbrev pub driven : List ℕ → List Car → ℕ → List Car
driven speeds cars k = take k (cars_after_motion speeds cars) ++ drop k cars

-- no car is lost
pub driven_length : (speeds : List ℕ) (cars : List Car) (k : ℕ) → length speeds ≡ length cars → length (driven speeds cars k) ≡ length cars
driven_length speeds cars zero same = refl
driven_length [] [] (suc k) same = refl
driven_length [] (car ∷ cars) (suc k) same = absurd (omega arith)
driven_length (v ∷ speeds) [] (suc k) same = refl
driven_length (v ∷ speeds) (car ∷ cars) (suc k) same = ap suc (driven_length speeds cars k (omega arith))

-- the k-th car has not driven yet
pub driven_next : (speeds : List ℕ) (cars : List Car) (k : ℕ) (d : Car) → length speeds ≡ length cars → slice_index_or (driven speeds cars k) k d ≡ slice_index_or cars k d
driven_next speeds cars zero d same = refl
driven_next [] [] (suc k) d same = refl
driven_next [] (car ∷ cars) (suc k) d same = absurd (omega arith)
driven_next (v ∷ speeds) [] (suc k) d same = refl
driven_next (v ∷ speeds) (car ∷ cars) (suc k) d same = driven_next speeds cars k d (omega arith)

-- then it drives too
pub one_drives : (speeds : List ℕ) (cars : List Car) (k : ℕ) (d : Car) → length speeds ≡ length cars → k < length cars
    → slice_set (driven speeds cars k) k (car_after_motion (slice_index speeds k) (slice_index_or cars k d)) ≡ driven speeds cars (suc k)
one_drives [] [] k d same below = absurd (omega arith)
one_drives [] (car ∷ cars) k d same below = absurd (omega arith)
one_drives (v ∷ speeds) [] k d same below = absurd (omega arith)
one_drives (v ∷ speeds) (car ∷ cars) zero d same below = refl
one_drives (v ∷ speeds) (car ∷ cars) (suc k) d same below = ap (λ xs. car_after_motion v car ∷ xs) (one_drives speeds cars k d (omega arith) (omega arith))

-- in the end all have driven
pub all_driven : (speeds : List ℕ) (cars : List Car) (k : ℕ) → length speeds ≡ length cars → length cars ≤ k → driven speeds cars k ≡ cars_after_motion speeds cars
all_driven [] [] zero same past = refl
all_driven [] [] (suc k) same past = refl
all_driven [] (car ∷ cars) k same past = absurd (omega arith)
all_driven (v ∷ speeds) [] k same past = absurd (omega arith)
all_driven (v ∷ speeds) (car ∷ cars) zero same past = absurd (omega arith)
all_driven (v ∷ speeds) (car ∷ cars) (suc k) same past = ap (λ xs. car_after_motion v car ∷ xs) (all_driven speeds cars k (omega arith) (omega arith))

-- the cell of a car that the list has at a place
pub cell_here : (cars : List Car) (k : ℕ) (here : Car) → k < length cars → here ≡ slice_index_or cars k here → cell_at cars k ≡ here.cell
cell_here [] k here below is = absurd (omega arith)
cell_here (car ∷ cars) zero here below is = ap (λ x. x.cell) (sym is)
cell_here (car ∷ cars) (suc k) here below is = cell_here cars k here (omega arith) is
