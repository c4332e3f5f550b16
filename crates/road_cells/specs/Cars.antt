-- The cars of an array, in rising cells, and the array that cars make.
use Rattle.std.specs.Prelude.{ℕ, ◌+◌, ◌≤◌, max, List, [], ◌∷◌, nat_eq, nat_lt, if◌then◌else◌}
use Rattle.std.specs.List.{slice_index_or, count_by}
use Rattle.std.specs.declared.option.Option.{Option}
use Rattle.std.specs.declared.option.Option.TheVariants.{None, Some}
use Rattle.road_cells.specs.Array.{Array, Vehicle, array}
use Rattle.road_cells.specs.declared.car.Car.{Car}

-- the vehicle of a car, without its cell
abbrev pub vehicle_of : Car → Vehicle
vehicle_of car = record { number = car.number; speed = car.speed }

-- the car of a vehicle at cell c
abbrev pub car_of : ℕ → Vehicle → Car
car_of c v = record { number = v.number; cell = c; speed = v.speed }

-- the cars of an array whose first place is cell k
abbrev pub cars_from : ℕ → Array → List Car
cars_from k [] = []
cars_from k (None ∷ places) = cars_from (k + 1) places
cars_from k (Some v ∷ places) = car_of k v ∷ cars_from (k + 1) places

-- the cars of an array, in rising cells
abbrev pub cars_of : Array → List Car
cars_of a = cars_from 0 a

-- the cell of the k-th car, counted from 0, or 0 if there is no such car
abbrev pub cell_at : List Car → ℕ → ℕ
cell_at cars k = (slice_index_or cars k (car_of 0 (record { number = 0; speed = 0 }))).cell

-- the number of cars before a cell
abbrev pub cars_before : ℕ → List Car → ℕ
cars_before c cars = count_by (λ car. nat_lt car.cell c) cars

-- the cells of cars strictly rise, and begin at k or later
abbrev pub AreRisingFrom : ℕ → List Car → Type 0
AreRisingFrom k [] = Unit {0}
AreRisingFrom k (car ∷ cars) = (k ≤ car.cell) × AreRisingFrom (car.cell + 1) cars

-- the cells of cars strictly rise
abbrev pub AreRising : List Car → Type 0
AreRising cars = AreRisingFrom 0 cars

-- the vehicle of the car at a cell, if there is one
abbrev pub vehicle_among : ℕ → List Car → Option Vehicle
vehicle_among c [] = None
vehicle_among c (car ∷ cars) = if nat_eq car.cell c then Some (vehicle_of car) else vehicle_among c cars

-- the largest cell of a car plus one, or 0 if there is no car
abbrev pub end_of : List Car → ℕ
end_of [] = 0
end_of (car ∷ cars) = max (car.cell + 1) (end_of cars)

-- the array that cars make
abbrev pub array_of : List Car → Array
array_of cars = array (end_of cars) (λ c. vehicle_among c cars)
