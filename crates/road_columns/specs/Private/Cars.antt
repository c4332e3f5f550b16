-- The cars in columns, as values of the program's type.
use Rattle.std.specs.Prelude.{◌≡◌, ℕ, ◌⊎◌, ◌+◌, ◌-◌, ◌<◌, ◌≤◌, List, length, slice_index, slice_range}
use Rattle.std.specs.declared.option.Option.{Option}
use Rattle.road_cells.specs.Array.{Array, Vehicle}
use Rattle.road_plan.specs.Plan.{Plan}
use Rattle.road_plan.specs.Settings.{Settings}
use Rattle.road_cells.specs.declared.car.Car.{Car}
use Rattle.road_cells.specs.declared.car.TheConstants.{GREATEST_SPEED}
use Rattle.road_ends.specs.Speed.{speeds}
use Rattle.road_columns.specs.Columns.{AreColumnsOf, mirrored}
use Rattle.road_columns.specs.Private.CarsAt.{AreCarsAt, from_place}
use Rattle.road_columns.specs.Private.Entering.{IsPutIn, place_beside}
use Rattle.road_columns.specs.Private.Held.{road_in}
use Rattle.road_columns.specs.declared.cars.CarColumns.{CarColumns}

-- the road of these cars
abbrev pub road_of : CarColumns → Array
road_of cars = road_in cars.cells.items cars.speeds.items cars.numbers.items cars.head cars.tail

-- these are all the cars of a road, which is given by the vehicle at each of its cells
abbrev pub AreAllOn : (ℕ → Option Vehicle) → CarColumns → Type 0
AreAllOn road cars =
    AreCarsAt road (cars.tail - cars.head) (from_place cars.cells.items cars.head)
    (from_place cars.speeds.items cars.head) (from_place cars.numbers.items cars.head)

-- these are the cars of an array
abbrev pub AreCarsOf : Array → CarColumns → Type 0
AreCarsOf a cars =
    AreColumnsOf a (slice_range cars.cells.items cars.head cars.tail)
    (slice_range cars.speeds.items cars.head cars.tail) (slice_range cars.numbers.items cars.head cars.tail)

-- new columns hold a list of cars, from the first place on
pub record HoldsCars (cars : List Car) (old new : CarColumns) : Type 0 where
  pub head : new.head ≡ 8
  pub tail : new.tail ≡ 8 + length cars
  pub cells_each : length new.cells.items ≡ length old.cells.items

-- the cars are moved to the first places of their columns, whose length stays the same
pub record ShiftsBack (old new : CarColumns) : Type 0 where
  pub head : new.head ≡ 8
  pub tail : new.tail ≡ 8 + (old.tail - old.head)
  pub cells_each : length new.cells.items ≡ length old.cells.items

-- columns are lengthened, and the cars keep their places
pub record AreLonger (old new : CarColumns) : Type 0 where
  pub head : new.head ≡ old.head
  pub tail : new.tail ≡ old.tail
  pub places : new.places.items ≡ old.places.items
  pub longer : length old.cells.items ≤ length new.cells.items
  pub cells : (q : ℕ) → q < length old.cells.items → slice_index new.cells.items q ≡ slice_index old.cells.items q
  pub speeds : (q : ℕ) → q < length old.cells.items → slice_index new.speeds.items q ≡ slice_index old.speeds.items q
  pub numbers : (q : ℕ) → q < length old.cells.items → slice_index new.numbers.items q ≡ slice_index old.numbers.items q

-- a car with speed 0 is inserted at a place, and the kept places of sites are updated
pub record PutsCar (sites : List ℕ) (old new : CarColumns) (place cell number : ℕ) : Type 0 where
  pub head : new.head ≡ old.head
  pub tail : new.tail ≡ old.tail + 1
  pub cells_each : length new.cells.items ≡ length old.cells.items
  pub places_each : length new.places.items ≡ length old.places.items
  pub cells : IsPutIn old.cells.items new.cells.items place old.tail cell 0
  pub speeds : IsPutIn old.speeds.items new.speeds.items place old.tail 0 0
  pub numbers : IsPutIn old.numbers.items new.numbers.items place old.tail number 0
  pub behind : slice_index new.cells.items new.tail ≡ 0
  pub places : (d : ℕ) → d < length sites
      → slice_index new.places.items d ≡ place_beside (slice_index sites d) cell (slice_index old.places.items d)

-- the cars move in step t of a road under settings, by the speeds of the definition, and each stays behind the next one
pub record MoveCars (p : Plan) (s : Settings) (t : ℕ) (old new : CarColumns) : Type 0 where
  pub head : new.head ≡ old.head
  pub tail : new.tail ≡ old.tail
  pub numbers : new.numbers.items ≡ old.numbers.items
  pub places : new.places.items ≡ old.places.items
  pub cells_each : length new.cells.items ≡ length old.cells.items
  pub moved : (q : ℕ) → old.head ≤ q → q < old.tail
      → slice_index new.cells.items q ≡ slice_index old.cells.items q + slice_index new.speeds.items q
  pub others : (q : ℕ) → (q < old.head) ⊎ (old.tail ≤ q) → slice_index new.cells.items q ≡ slice_index old.cells.items q
  pub apart : (q : ℕ) → old.head ≤ q → q + 1 < old.tail
      → slice_index new.cells.items (q + 1) < slice_index old.cells.items q
  pub slow : (q : ℕ) → old.head ≤ q → q < old.tail → slice_index new.speeds.items q ≤ GREATEST_SPEED
  pub speed_is : (a : Array) → length a ≤ p.cells → AreCarsOf a old → (q : ℕ) → old.head ≤ q → q < old.tail
      → slice_index new.speeds.items q
      ≡ slice_index (speeds p s t a) (mirrored (old.tail - old.head) (q - old.head))
