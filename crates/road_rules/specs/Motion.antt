-- Rule 4: each vehicle advances by its speed (Nagel and Schreckenberg 1992).
use Rattle.std.specs.Prelude.{◌≡◌, ℕ, ◌+◌, ◌<◌, ◌≤◌, ◌==◌, List, [], ◌∷◌, length, slice_index, if◌then◌else◌}
use Rattle.std.specs.List.{All, range_with_len}
use Rattle.std.specs.Option.{option_or}
use Rattle.std.specs.declared.option.Option.{Option}
use Rattle.std.specs.declared.option.Option.TheVariants.{None, Some}
use Rattle.road_cells.specs.Array.{Array, Vehicle, vehicle_at, array}
use Rattle.road_cells.specs.Cars.{cars_of, cell_at, cars_before}
use Rattle.road_cells.specs.declared.car.Car.{Car}
use Rattle.road_cells.specs.declared.car.TheConstants.{GREATEST_SPEED}

-- the value of a function at the first number at which it has one
abbrev pub first_some : {X : Type 0} → (ℕ → Option X) → List ℕ → Option X
first_some f [] = None
first_some f (c ∷ cs) = option_or (f c) (first_some f cs)

-- the vehicle at cell c, at its new speed, if that brings it to cell j
abbrev pub arrival_from : ℕ → ℕ → (Vehicle → ℕ) → Option Vehicle → Option Vehicle
arrival_from j c speed None = None
arrival_from j c speed (Some v) = if c + speed v == j then Some (record { number = v.number; speed = speed v })
    else None

-- the vehicle that arrives at cell j: the first whose new speed brings it there, at that speed
abbrev pub arrival_at : (ℕ → Vehicle → ℕ) → Array → ℕ → Option Vehicle
arrival_at speed a j = first_some (λ c. arrival_from j c (speed c) (vehicle_at a c)) (range_with_len 0 (length a))

-- motion: each place holds the vehicle that arrives there, if one does; the array is long enough for vehicles up to the
-- maximum speed
abbrev pub array_after_motion : (ℕ → Vehicle → ℕ) → Array → Array
array_after_motion speed a = array (length a + GREATEST_SPEED) (arrival_at speed a)

-- the speed of the vehicle at cell c, from a list of speeds in the order of the cars: its index is the number of cars
-- before c
abbrev pub speed_at : Array → List ℕ → ℕ → ℕ
speed_at a speeds c = slice_index speeds (cars_before c (cars_of a))

-- motion at these speeds
abbrev pub array_after_motion_at : List ℕ → Array → Array
array_after_motion_at speeds a = array_after_motion (λ c v. speed_at a speeds c) a

-- cars may move at these speeds: there is one speed for each car, none is above the maximum speed, and no car reaches
-- the next car
pub record MayMove (a : Array) (speeds : List ℕ) : Type 0 where
  pub one_each : length speeds ≡ length (cars_of a)
  pub slow_enough : All (λ v. v ≤ GREATEST_SPEED) speeds
  pub apart : (k : ℕ) → k + 1 < length speeds
      → cell_at (cars_of a) k + slice_index speeds k < cell_at (cars_of a) (k + 1)

-- a car at a new speed, advanced by it
abbrev pub car_after_motion : ℕ → Car → Car
car_after_motion speed car = record { number = car.number; cell = car.cell + speed; speed = speed }

-- the cars after motion, each at the speed of its place in the list
abbrev pub cars_after_motion : List ℕ → List Car → List Car
cars_after_motion speeds [] = []
cars_after_motion [] (car ∷ cars) = []
cars_after_motion (v ∷ speeds) (car ∷ cars) = car_after_motion v car ∷ cars_after_motion speeds cars
