-- Worked examples, as equations that the checker computes.
use Rattle.std.specs.Prelude.{◌≡◌, ℕ, List, [], ◌∷◌, refl}
use Rattle.std.specs.declared.option.Option.{Option}
use Rattle.std.specs.declared.option.Option.TheVariants.{None, Some}
use Rattle.road_cells.specs.Array.{Array, Vehicle, vehicle_at, array, array_of_places}
use Rattle.road_cells.specs.Cars.{cars_of, cell_at, end_of, array_of}
use Rattle.road_cells.specs.Gap.{free_before, free_cells}
use Rattle.road_cells.specs.declared.car.Car.{Car}

vehicle : ℕ → ℕ → Option Vehicle
vehicle number speed = Some (record { number = number; speed = speed })

car : ℕ → ℕ → ℕ → Car
car number cell speed = record { number = number; cell = cell; speed = speed }

-- ---- the road `0..2...2....`, each digit a car's speed: car 80 at cell 0, car 48 at cell 3, car 16 at cell 7

road : Array
road = vehicle 80 0 ∷ None ∷ None ∷ vehicle 48 2 ∷ None ∷ None ∷ None ∷ vehicle 16 2 ∷ []

cars : List Car
cars = car 80 0 0 ∷ car 48 3 2 ∷ car 16 7 2 ∷ []

cars_of-road : cars_of road ≡ cars
unfolding road cars vehicle car
cars_of-road = refl

array_of-cars : array_of cars ≡ road
unfolding road cars vehicle car
array_of-cars = refl

cell_at-second : cell_at cars 1 ≡ 3
unfolding cars car
cell_at-second = refl

vehicle_at-car : vehicle_at road 3 ≡ vehicle 48 2
unfolding road vehicle
vehicle_at-car = refl

vehicle_at-free : vehicle_at road 4 ≡ None
unfolding road vehicle
vehicle_at-free = refl

-- every cell past the last car is empty
vehicle_at-behind : vehicle_at road 9000 ≡ None
unfolding road vehicle
vehicle_at-behind = refl

end_of-cars : end_of cars ≡ 8
unfolding cars car
end_of-cars = refl

-- ---- empty roads: one array, however many empty places it is made of

array_of-none : array_of [] ≡ []
array_of-none = refl

cars_of-empty : cars_of [] ≡ []
cars_of-empty = refl

array-empty : array 5 (λ c. None) ≡ []
array-empty = refl

array_of_places-end : array_of_places (None ∷ vehicle 1 4 ∷ None ∷ None ∷ []) ≡ None ∷ vehicle 1 4 ∷ []
unfolding vehicle
array_of_places-end = refl

-- ---- the free cells in front of a car

-- up to the next car: `0..2` has two, `2...2` three
free_cells-first : free_cells [] road 0 ≡ 2
unfolding road vehicle free_before
free_cells-first = refl

free_cells-second : free_cells [] road 3 ≡ 3
unfolding road vehicle free_before
free_cells-second = refl

-- the road has no end: the last car has all nine
free_cells-last : free_cells [] road 7 ≡ 9
unfolding road vehicle free_before
free_cells-last = refl

-- none if the next car is in the next cell
free_cells-next : free_cells [] (array_of (car 1 4 0 ∷ car 2 5 0 ∷ [])) 4 ≡ 0
unfolding car free_before
free_cells-next = refl

-- eight before the ninth cell, all nine before the tenth, and no more before the eleventh
free_cells-ninth : free_cells [] (array_of (car 1 0 0 ∷ car 2 9 0 ∷ [])) 0 ≡ 8
unfolding car free_before
free_cells-ninth = refl

free_cells-tenth : free_cells [] (array_of (car 1 0 0 ∷ car 2 10 0 ∷ [])) 0 ≡ 9
unfolding car free_before
free_cells-tenth = refl

free_cells-eleventh : free_cells [] (array_of (car 1 0 0 ∷ car 2 11 0 ∷ [])) 0 ≡ 9
unfolding car free_before
free_cells-eleventh = refl

-- up to a blocked cell, if it comes before the next car
free_cells-block : free_cells (5 ∷ []) road 3 ≡ 1
unfolding road vehicle free_before
free_cells-block = refl

free_cells-block_next : free_cells (8 ∷ []) road 7 ≡ 0
unfolding road vehicle free_before
free_cells-block_next = refl

free_cells-block_ninth : free_cells (16 ∷ []) road 7 ≡ 8
unfolding road vehicle free_before
free_cells-block_ninth = refl

free_cells-block_tenth : free_cells (17 ∷ []) road 7 ≡ 9
unfolding road vehicle free_before
free_cells-block_tenth = refl

-- blocked cells behind a car, or under it, are not in front of it
free_cells-block_behind : free_cells (2 ∷ 3 ∷ []) road 3 ≡ 3
unfolding road vehicle free_before
free_cells-block_behind = refl

-- a car on a blocked cell counts only up to that cell
free_cells-block_under_car : free_cells (7 ∷ []) road 3 ≡ 3
unfolding road vehicle free_before
free_cells-block_under_car = refl
