-- Columns hold the cars of an array exactly if they have the vehicle at each of its cells. Motion and entries are
-- defined cell by cell, so this connects them with columns.
use Rattle.std.specs.Prelude.{◌≡◌, ℕ, ◌+◌, ◌<◌, List, length, slice_index}
use Rattle.std.proofs.Common.{sym, ap, ◌∙◌, arith}
use Rattle.std.specs.declared.option.Option.TheVariants.{Some}
use Rattle.road_cells.specs.Array.{Array, vehicle_at}
use Rattle.road_cells.specs.Cars.{cars_of, cars_from, cell_at, array_of, vehicle_among, AreRising}
use Rattle.road_cells.specs.declared.car.Car.{Car}
use Rattle.road_cells.proofs.ArrayPlaces.{array_of_places-same}
use Rattle.road_cells.proofs.CarLists.{cars_from-array_of_places, cars_of-array_of, rise-cars_from, vehicle_among-cars_from}
use Rattle.road_cells.proofs.CarPlaces.{rise-at, vehicle_among-absent, vehicle_among-at}
use Rattle.road_ends.specs.Speed.{nth_car}
use Rattle.road_columns.specs.Columns.{AreColumnsOf, mirrored}
use Rattle.road_columns.specs.Private.CarsAt.{AreCarsAt}
use Rattle.road_columns.specs.Private.Held.{cars_held}
use Rattle.road_columns.proofs.HeldLists.{car_here, held, many_held, rise_held, same_roads}

abbrev nobody : Car
nobody = record { number = 0; cell = 0; speed = 0 }

-- arrays that agree at each cell have the same cars
pub same_cars : (a b : Array) → ((c : ℕ) → vehicle_at a c ≡ vehicle_at b c) → cars_of a ≡ cars_of b
same_cars a b same = sym (cars_from-array_of_places 0 a) ∙ ap (cars_from 0) (array_of_places-same a b same) ∙ cars_from-array_of_places 0 b

-- the vehicle at a cell of an array is that of its car there
pub among_cars : (a : Array) (c : ℕ) → vehicle_among c (cars_of a) ≡ vehicle_at a c
among_cars a c = let here : c ≡ 0 + c = omega arith in ap (λ x. vehicle_among x (cars_of a)) here ∙ vehicle_among-cars_from 0 c a

-- columns of an array have the vehicle at each of its cells
pub cars_at : (a : Array) (cells speeds numbers : List ℕ) → AreColumnsOf a cells speeds numbers
    → AreCarsAt (vehicle_at a) (length cells) (slice_index cells) (slice_index speeds) (slice_index numbers)
cars_at a cells speeds numbers columns =
    let many = columns.as_many in
    record {
      falling = λ i below.
          let low = columns.cell_each (i + 1) (omega arith) in
          let high = columns.cell_each i (omega arith) in
          let rise = rise-at 0 (cars_of a) (mirrored (length cells) (i + 1)) (mirrored (length cells) i) (rise-cars_from 0 a) (omega arith) (omega arith) in omega arith;
      stands = λ i below.
          ap (vehicle_at a) (columns.cell_each i below)
          ∙ sym (among_cars a (cell_at (cars_of a) (mirrored (length cells) i)))
          ∙ vehicle_among-at 0 (cars_of a) (mirrored (length cells) i) nobody (rise-cars_from 0 a) (omega arith)
          ∙ (λ j. Some (record { number = sym (columns.number_each i below) j; speed = sym (columns.speed_each i below) j }));
      nobody = λ c apart. sym (among_cars a c) ∙ vehicle_among-absent (cars_of a) c (λ i below same.
          let mirror : mirrored (length cells) (mirrored (length cells) i) ≡ i = omega arith in
          apart (mirrored (length cells) i) (omega arith) (columns.cell_each (mirrored (length cells) i) (omega arith) ∙ ap (cell_at (cars_of a)) mirror ∙ same));
    }

module _ (cell speed number : ℕ → ℕ) where
  -- columns that have the vehicle at each cell of an array are columns of the array
  pub columns_at : (b : Array) (n : ℕ) (cells speeds numbers : List ℕ) → AreCarsAt (vehicle_at b) n cell speed number → length cells ≡ n
      → ((i : ℕ) → i < n → slice_index cells i ≡ cell i) → ((i : ℕ) → i < n → slice_index speeds i ≡ speed i) → ((i : ℕ) → i < n → slice_index numbers i ≡ number i)
      → AreColumnsOf b cells speeds numbers
  columns_at b n cells speeds numbers are long cell_is speed_is number_is = record {
    as_many = long ∙ sym (many_held cell speed number n) ∙ sym (ap length all);
    cell_each = λ i below. cell_is i (omega arith) ∙ ap (λ (car : Car). car.cell) (car_here cell speed number n i (omega arith)) ∙ (λ j. (nth_car (sym all j) (mirrored (sym long j) i)).cell);
    speed_each = λ i below. speed_is i (omega arith) ∙ ap (λ (car : Car). car.speed) (car_here cell speed number n i (omega arith)) ∙ (λ j. (nth_car (sym all j) (mirrored (sym long j) i)).speed);
    number_each = λ i below. number_is i (omega arith) ∙ ap (λ (car : Car). car.number) (car_here cell speed number n i (omega arith)) ∙ (λ j. (nth_car (sym all j) (mirrored (sym long j) i)).number);
  }
    where
      rise : AreRising (cars_held cell speed number n)
      rise = rise_held cell speed number n 0 are.falling (λ some. omega arith)

      all : cars_of b ≡ cars_held cell speed number n
      all = same_cars b (array_of (cars_held cell speed number n)) (same_roads cell speed number b (array_of (cars_held cell speed number n)) n are (held cell speed number n are.falling)) ∙ cars_of-array_of (cars_held cell speed number n) rise
