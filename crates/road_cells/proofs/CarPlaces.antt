-- Laws of the places of cars in their list.
use Rattle.std.specs.Prelude.{◌≡◌, ◌≢◌, ℕ, zero, suc, ◌+◌, ◌<◌, ◌≤◌, List, [], ◌∷◌, length, refl}
use Rattle.std.specs.List.{slice_index_or}
use Rattle.std.specs.declared.option.Option.TheVariants.{None, Some}
use Rattle.road_cells.specs.Array.{Array}
use Rattle.std.proofs.Common.{◌∙◌, arith}
use Rattle.road_cells.specs.Cars.{cars_from, AreRisingFrom, vehicle_among, vehicle_of, cell_at}
use Rattle.road_cells.proofs.CarLists.{vehicle_among-other, vehicle_among-here}
use Rattle.road_cells.specs.declared.car.Car.{Car}

-- if cars rise from k on, each cell is at least k
pub rise-from : (k : ℕ) (cars : List Car) (j : ℕ) → AreRisingFrom k cars → j < length cars → k ≤ cell_at cars j
rise-from k [] j rise below = absurd (omega arith)
rise-from k (car ∷ cars) zero rise below = rise.0
rise-from k (car ∷ cars) (suc j) rise below = let from = rise.0 in let rest = rise-from (car.cell + 1) cars j rise.1 (omega arith) in omega arith

-- a car further on in the list is further on the road
pub rise-at : (k : ℕ) (cars : List Car) (i j : ℕ) → AreRisingFrom k cars → i < j → j < length cars → cell_at cars i < cell_at cars j
rise-at k [] i j rise lt below = absurd (omega arith)
rise-at k (car ∷ cars) i zero rise lt below = absurd (omega arith)
rise-at k (car ∷ cars) zero (suc j) rise lt below = let rest = rise-from (car.cell + 1) cars j rise.1 (omega arith) in omega arith
rise-at k (car ∷ cars) (suc i) (suc j) rise lt below = rise-at (car.cell + 1) cars i j rise.1 (omega arith) (omega arith)

-- a cell at which no car is has no vehicle
pub vehicle_among-absent : (cars : List Car) (c : ℕ) → ((i : ℕ) → i < length cars → cell_at cars i ≢ c) → vehicle_among c cars ≡ None
vehicle_among-absent [] c absent = refl
vehicle_among-absent (car ∷ cars) c absent = vehicle_among-other car cars c (absent 0 (omega arith)) ∙ vehicle_among-absent cars c (λ i below. absent (suc i) (omega arith))

-- the k-th car is at its cell
pub vehicle_among-at : (k : ℕ) (cars : List Car) (i : ℕ) (d : Car) → AreRisingFrom k cars → i < length cars → vehicle_among (cell_at cars i) cars ≡ Some (vehicle_of (slice_index_or cars i d))
vehicle_among-at k [] i d rise below = absurd (omega arith)
vehicle_among-at k (car ∷ cars) zero d rise below = vehicle_among-here car cars car.cell refl
vehicle_among-at k (car ∷ cars) (suc i) d rise below =
    let further = rise-from (car.cell + 1) cars i rise.1 (omega arith) in
    vehicle_among-other car cars (cell_at cars i) (λ same. absurd (omega arith)) ∙ vehicle_among-at (car.cell + 1) cars i d rise.1 (omega arith)

-- there are at most as many cars as places
pub length-cars_from : (k : ℕ) (places : Array) → length (cars_from k places) ≤ length places
length-cars_from k [] = omega arith
length-cars_from k (None ∷ places) = let rest = length-cars_from (k + 1) places in omega arith
length-cars_from k (Some v ∷ places) = let rest = length-cars_from (k + 1) places in omega arith
