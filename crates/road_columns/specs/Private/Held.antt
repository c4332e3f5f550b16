-- Roads that are held in columns.
use Rattle.std.specs.Prelude.{◌≡◌, ℕ, zero, suc, ◌-◌, ◌<◌, ◌≤◌, List, [], ◌∷◌}
use Rattle.std.specs.declared.option.Option.TheVariants.{Some}
use Rattle.road_cells.specs.Array.{Array, Vehicle, vehicle_at}
use Rattle.road_cells.specs.Cars.{array_of}
use Rattle.road_cells.specs.declared.car.Car.{Car}
use Rattle.road_cells.specs.declared.car.TheConstants.{GREATEST_SPEED}
use Rattle.road_columns.specs.Private.CarsAt.{from_place}

-- the cars with these cells, speeds and numbers, the last one first
abbrev pub cars_held : (ℕ → ℕ) → (ℕ → ℕ) → (ℕ → ℕ) → ℕ → List Car
cars_held cell speed number zero = []
cars_held cell speed number (suc m) =
    record { number = number m; cell = cell m; speed = speed m } ∷ cars_held cell speed number m

-- the road of the cars at the places from head to before tail
abbrev pub road_in : List ℕ → List ℕ → List ℕ → ℕ → ℕ → Array
road_in cells speeds numbers head tail =
    array_of (cars_held (from_place cells head) (from_place speeds head) (from_place numbers head) (tail - head))

-- every car of a road is on the cells from lo to before hi, and none is too fast
pub record StandOn (lo hi : ℕ) (a : Array) : Type 0 where
  pub from : (c : ℕ) (car : Vehicle) → vehicle_at a c ≡ Some car → lo ≤ c
  pub to : (c : ℕ) (car : Vehicle) → vehicle_at a c ≡ Some car → c < hi
  pub slow : (c : ℕ) (car : Vehicle) → vehicle_at a c ≡ Some car → car.speed ≤ GREATEST_SPEED
