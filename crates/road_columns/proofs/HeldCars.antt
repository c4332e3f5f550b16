-- The road that columns hold.
use Rattle.std.specs.Prelude.{◌≡◌, ℕ, suc, ◌+◌, ◌-◌, ◌<◌, ◌≤◌, List, [], ◌∷◌, ◌++◌, length, slice_index, slice_range}
use Rattle.std.proofs.Common.{sym, ap, ◌∙◌, arith, refl}
use Rattle.std.specs.List.{All}
use Rattle.std.specs.declared.option.Option.{Option}
use Rattle.road_plan.specs.Plan.{Plan, exit_start}
use Rattle.road_cells.specs.Array.{Vehicle, vehicle_at, array}
use Rattle.road_cells.specs.Cars.{AreRising, array_of, car_of, cars_of, cell_at, end_of, vehicle_among}
use Rattle.road_cells.specs.declared.car.Car.{Car}
use Rattle.road_cells.proofs.ArrayPlaces.{array-same}
use Rattle.road_cells.proofs.CarLists.{cars_of-array_of}
use Rattle.road_ends.specs.Speed.{nth_car}
use Rattle.road_columns.specs.Columns.{AreColumnsOf, mirrored}
use Rattle.road_columns.specs.Private.CarsAt.{AreCarsAt, from_place}
use Rattle.road_columns.specs.Private.Held.{cars_held, road_in}
use Rattle.road_columns.specs.Private.LooseWords.{AreFalling}
use Rattle.road_columns.specs.Private.Step.{AreCarsInColumn}
use Rattle.road_columns.proofs.HeldLists.{held, many_held, rise_held, same_roads}
use Rattle.road_columns.proofs.ColumnPlaces.{cars_of_ranges, range_at, range_long, ranges_of_cars}

-- cells that fall, by their places from the first on
pub fall_from : (cells : List ℕ) (head tail : ℕ) → AreFalling cells head tail → (i : ℕ) → i + 1 < tail - head → from_place cells head (i + 1) < from_place cells head i
fall_from cells head tail falling i below =
    let next : head + (i + 1) ≡ (head + i) + 1 = omega arith in
    let at = ap (slice_index cells) next in
    let fall = falling (head + i) (omega arith) (omega arith) in omega arith

-- the cars of the list rise
pub held_rise : (cells speeds numbers : List ℕ) (head tail : ℕ) → AreFalling cells head tail
    → AreRising (cars_held (from_place cells head) (from_place speeds head) (from_place numbers head) (tail - head))
held_rise cells speeds numbers head tail falling =
    rise_held (from_place cells head) (from_place speeds head) (from_place numbers head) (tail - head) 0 (fall_from cells head tail falling) (λ some. omega arith)

-- the cars of columns are those of the road that they hold
pub cars_of_held : (cells speeds numbers : List ℕ) (head tail : ℕ) → AreFalling cells head tail
    → AreCarsAt (vehicle_at (road_in cells speeds numbers head tail)) (tail - head) (from_place cells head) (from_place speeds head) (from_place numbers head)
cars_of_held cells speeds numbers head tail falling =
    held (from_place cells head) (from_place speeds head) (from_place numbers head) (tail - head) (fall_from cells head tail falling)

pub columns_of_held : (cells speeds numbers : List ℕ) (head tail : ℕ) → tail ≤ length cells → AreFalling cells head tail
    → AreColumnsOf (road_in cells speeds numbers head tail) (slice_range cells head tail) (slice_range speeds head tail) (slice_range numbers head tail)
columns_of_held cells speeds numbers head tail within falling =
    ranges_of_cars (road_in cells speeds numbers head tail) cells speeds numbers head tail within (cars_of_held cells speeds numbers head tail falling)

-- a road with these columns is the one that they hold: roads with the same vehicles are equal
pub held_is : (n : ℕ) (f : ℕ → Option Vehicle) (cells speeds numbers : List ℕ) (head tail : ℕ) → tail ≤ length cells → AreFalling cells head tail
    → AreColumnsOf (array n f) (slice_range cells head tail) (slice_range speeds head tail) (slice_range numbers head tail)
    → road_in cells speeds numbers head tail ≡ array n f
held_is n f cells speeds numbers head tail within falling columns =
    let list = cars_held (from_place cells head) (from_place speeds head) (from_place numbers head) (tail - head) in
    array-same (end_of list) n (λ c. vehicle_among c list) f
    (same_roads (from_place cells head) (from_place speeds head) (from_place numbers head) (road_in cells speeds numbers head tail) (array n f) (tail - head)
    (cars_of_held cells speeds numbers head tail falling) (cars_of_ranges (array n f) cells speeds numbers head tail within columns))

-- as many cars are on the road as the columns hold
pub many_cars : (cells speeds numbers : List ℕ) (head tail : ℕ) → AreFalling cells head tail → length (cars_of (road_in cells speeds numbers head tail)) ≡ tail - head
many_cars cells speeds numbers head tail falling =
    ap length (cars_of-array_of (cars_held (from_place cells head) (from_place speeds head) (from_place numbers head) (tail - head)) (held_rise cells speeds numbers head tail falling))
    ∙ many_held (from_place cells head) (from_place speeds head) (from_place numbers head) (tail - head)

-- cars that are written into columns, the last one first
module _ (cars : List Car) (cells speeds numbers : List ℕ) (head tail : ℕ) (rise : AreRising cars) (many : tail ≡ head + length cars) (within : tail ≤ length cells)
    (cell_is : (i : ℕ) → i < length cars → slice_index cells (head + i) ≡ cell_at cars (mirrored (length cars) i))
    (speed_is : (i : ℕ) → i < length cars → slice_index speeds (head + i) ≡ (nth_car cars (mirrored (length cars) i)).speed)
    (number_is : (i : ℕ) → i < length cars → slice_index numbers (head + i) ≡ (nth_car cars (mirrored (length cars) i)).number) where
  put_columns : AreColumnsOf (array_of cars) (slice_range cells head tail) (slice_range speeds head tail) (slice_range numbers head tail)
  put_columns =
      let same = cars_of-array_of cars rise in
      let size : length (slice_range cells head tail) ≡ length cars = let long = range_long cells head tail within in omega arith in
      record {
        as_many = size ∙ sym (ap length same);
        cell_each = λ i below. range_at cells head tail i (omega arith) ∙ cell_is i (omega arith) ∙ (λ j. cell_at (sym same j) (mirrored (sym size j) i));
        speed_each = λ i below. range_at speeds head tail i (omega arith) ∙ speed_is i (omega arith) ∙ (λ j. (nth_car (sym same j) (mirrored (sym size j) i)).speed);
        number_each = λ i below. range_at numbers head tail i (omega arith) ∙ number_is i (omega arith) ∙ (λ j. (nth_car (sym same j) (mirrored (sym size j) i)).number);
      }

  put_cars : AreCarsAt (vehicle_at (array_of cars)) (tail - head) (from_place cells head) (from_place speeds head) (from_place numbers head)
  put_cars = cars_of_ranges (array_of cars) cells speeds numbers head tail within put_columns

  pub put_falling : AreFalling cells head tail
  put_falling i from below =
      let here : head + (i - head) ≡ i = omega arith in
      let next : head + ((i - head) + 1) ≡ i + 1 = omega arith in
      let a = ap (slice_index cells) here in
      let b = ap (slice_index cells) next in
      let fall = put_cars.falling (i - head) (omega arith) in omega arith

  pub put_road : road_in cells speeds numbers head tail ≡ array_of cars
  put_road = held_is (end_of cars) (λ c. vehicle_among c cars) cells speeds numbers head tail within put_falling put_columns

  pub put_in_column : (p : Plan) → 0 < head → tail < length cells → p.cells + 10 ≤ slice_index cells (head - 1) → slice_index cells tail ≡ 0
      → All (λ car. car.cell < exit_start p) cars → AreCarsInColumn p head tail cells
  put_in_column p low inside front behind before = record {
    low = low;
    order = omega arith;
    inside = inside;
    front = front;
    behind = behind;
    falling = put_falling;
    before_exit = λ i from below.
        let here : head + (i - head) ≡ i = omega arith in
        let at = ap (slice_index cells) here in
        let is = cell_is (i - head) (omega arith) in
        let less : cell_at cars (mirrored (length cars) (i - head)) < exit_start p = before (mirrored (length cars) (i - head)) (car_of 0 (record { number = 0; speed = 0 })) (omega arith) in omega arith;
  }

-- one more car is taken out
pub held_more : (cell speed number : ℕ → ℕ) (n m : ℕ) (done : List Car) (car : Car) → n ≡ suc m
    → record { number = number m; cell = cell m; speed = speed m } ≡ car
    → (done ++ car ∷ []) ++ cars_held cell speed number m ≡ done ++ cars_held cell speed number n
held_more cell speed number n m done car one is =
    together done (cars_held cell speed number m)
    ∙ ap (λ x. done ++ x ∷ cars_held cell speed number m) (sym is)
    ∙ sym (ap (λ k. done ++ cars_held cell speed number k) one)
  where
    together : (xs ys : List Car) → (xs ++ car ∷ []) ++ ys ≡ xs ++ car ∷ ys
    together [] ys = refl
    together (x ∷ xs) ys = ap (λ zs. x ∷ zs) (together xs ys)
