-- One step of the cars on some cells of a road: they are on these cells and 9 more.
use Rattle.std.specs.Prelude.{◌≡◌, ℕ, suc, ◌+◌, ◌-◌, ◌<◌, ◌≤◌, ◌⊎◌, List, [], ◌∷◌, map, min}
use Rattle.std.specs.List.{All, range_with_len, slice_index_or}
use Rattle.std.proofs.Common.{sym, subst, ◌∙◌, arith, refl, inl, inr}
use Rattle.std.proofs.lemmas.Bool.{cases_eq, cases_lt}
use Rattle.std.proofs.lemmas.Option.{none-some}
use Rattle.std.specs.declared.option.Option.TheVariants.{None, Some}
use Rattle.road_plan.specs.Plan.{Plan, exit_start}
use Rattle.road_plan.specs.Settings.{Settings}
use Rattle.road_cells.specs.Array.{Array, Vehicle, vehicle_at}
use Rattle.road_cells.specs.Cars.{array_of, car_of, cars_from, cars_of, cell_at, vehicle_among, vehicle_of}
use Rattle.road_cells.specs.declared.car.Car.{Car}
use Rattle.road_cells.specs.declared.car.TheConstants.{GREATEST_SPEED}
use Rattle.road_cells.proofs.ArrayPlaces.{past_array, past_end, vehicle_at-array}
use Rattle.road_cells.proofs.CarLists.{rise-cars_from, vehicle_among-below, vehicle_among-here, vehicle_among-other, vehicle_at-array_of}
use Rattle.road_cells.proofs.CarPlaces.{vehicle_among-at}
use Rattle.road_detector.specs.Rows.{HaveDigits}
use Rattle.road_rules.specs.Motion.{arrival_at}
use Rattle.road_ends.specs.EntriesBetween.{entries_between, with_entry}
use Rattle.road_ends.specs.Run.{road_after_motion}
use Rattle.road_ends.specs.Speed.{speed}
use Rattle.road_ends.proofs.EntriesBetween.{between-ends}
use Rattle.road_ends.proofs.NoCollision.{keep_below_greatest_speed}
use Rattle.road_ends.proofs.WhereCarsComeFrom.{CameFrom, came_from}
use Rattle.road_columns.specs.UnderWay.{CanRun}
use Rattle.road_columns.specs.Private.Held.{StandOn}
use Rattle.road_columns.proofs.CarsByPlaces.{among_cars}

-- if all cars are on some cells, the other cells are empty
pub nobody_outside : (lo hi : ℕ) (a : Array) → StandOn lo hi a → (c : ℕ) → (c < lo) ⊎ (hi ≤ c) → vehicle_at a c ≡ None
nobody_outside lo hi a stand c outside = elim (vehicle_at a c) as (λ o. vehicle_at a c ≡ o → o ≡ None) [
  | None ↦ λ is. refl
  | Some car ↦ λ is.
      let from = stand.from c car is in
      let to = stand.to c car is in
      elim outside as (λ _. Some car ≡ None) [
        | inl low ↦ absurd (omega arith)
        | inr high ↦ absurd (omega arith)
      ]
] refl

module _ (p : Plan) (s : Settings) (t lo hi : ℕ) (a : Array) (within : hi ≤ p.cells) where
  -- the road with its entries has vehicles on these cells only
  abbrev entered : Array
  entered = entries_between lo hi p s t a

  entered_from : (c : ℕ) (car : Vehicle) → vehicle_at entered c ≡ Some car → lo ≤ c
  entered_from c car is = elim (cases_lt c lo) as (λ _. lo ≤ c) [
    | inl low ↦
        let cars = cars_from lo (map (with_entry p s t a) (range_with_len lo (hi - lo))) in
        absurd (none-some car (sym (vehicle_among-below lo c cars (rise-cars_from lo (map (with_entry p s t a) (range_with_len lo (hi - lo)))) low) ∙ sym (vehicle_at-array_of cars c) ∙ is))
    | inr here ↦ here
  ]

  entered_to : (c : ℕ) (car : Vehicle) → vehicle_at entered c ≡ Some car → c < hi
  entered_to c car is = elim (cases_lt c hi) as (λ _. c < hi) [
    | inl here ↦ here
    | inr past ↦
        let ends = between-ends (with_entry p s t a) lo hi hi (omega arith) in
        absurd (none-some car (sym (past_end entered c (omega arith)) ∙ is))
  ]

  came : (c : ℕ) (car : Vehicle) → vehicle_at (road_after_motion p s t entered) c ≡ Some car → (c < exit_start p) × CameFrom (speed p s t entered) entered c car
  came c car is = elim (cases_lt c (exit_start p)) as (λ _. (c < exit_start p) × CameFrom (speed p s t entered) entered c car) [
    | inl on ↦ (on, came_from (speed p s t entered) entered c car (sym (vehicle_at-array (exit_start p) (arrival_at (speed p s t entered) entered) c on) ∙ is))
    | inr past ↦ absurd (none-some car (sym (past_array (exit_start p) (arrival_at (speed p s t entered) entered) c past) ∙ is))
  ]

  slow : (c : ℕ) (car : Vehicle) → speed p s t entered c car ≤ GREATEST_SPEED
  slow c car = (keep_below_greatest_speed p).on_arrays s t entered (between-ends (with_entry p s t a) lo hi p.cells within) c car

  pub stand_after : StandOn lo (min (hi + GREATEST_SPEED) p.cells) (road_after_motion p s t entered)
  stand_after = record {
    from = λ c car is.
        let by = (came c car is).1 in
        let low = entered_from by.cell by.earlier by.stood in
        let reached = by.reached in omega arith;
    to = λ c car is.
        let on = (came c car is).0 in
        let by = (came c car is).1 in
        let high = entered_to by.cell by.earlier by.stood in
        let most = slow by.cell by.earlier in
        let reached = by.reached in omega arith;
    slow = λ c car is.
        let by = (came c car is).1 in
        let most = slow by.cell by.earlier in
        let new = by.new_speed in omega arith;
  }

-- the speeds of these cars are digits
pub digits : (lo hi : ℕ) (a : Array) → StandOn lo hi a → HaveDigits (cars_of a)
digits lo hi a stand j d below =
    stand.slow (cell_at (cars_of a) j) (vehicle_of (slice_index_or (cars_of a) j d))
    (sym (among_cars a (cell_at (cars_of a) j)) ∙ vehicle_among-at 0 (cars_of a) j d (rise-cars_from 0 a) below)

-- a fact about all cars holds for the car at a cell
among_all : (P : Car → Type 0) (cars : List Car) → All P cars → (c : ℕ) (v : Vehicle) → vehicle_among c cars ≡ Some v → P (car_of c v)
among_all P [] all c v is = absurd (none-some v is)
among_all P (car ∷ cars) all c v is = elim (cases_eq car.cell c) as (λ _. P (car_of c v)) [
  | inl here ↦
      let same : Some (vehicle_of car) ≡ Some v = sym (vehicle_among-here car cars c here) ∙ is in
      let of : vehicle_of car ≡ v = cc in
      subst P (λ i. record { number = (of i).number; cell = here i; speed = (of i).speed }) (all 0 car (omega arith))
  | inr other ↦ among_all P cars (λ j d below. all (suc j) d (omega arith)) c v (sym (vehicle_among-other car cars c other) ∙ is)
]

-- the cars that a run can hold are on its cells
pub stand_all : (lo hi exit : ℕ) (cars : List Car) → All (CanRun lo hi exit) cars → StandOn lo hi (array_of cars)
stand_all lo hi exit cars all = record {
  from = λ c v is. (among_all (CanRun lo hi exit) cars all c v (sym (vehicle_at-array_of cars c) ∙ is)).from;
  to = λ c v is. (among_all (CanRun lo hi exit) cars all c v (sym (vehicle_at-array_of cars c) ∙ is)).to;
  slow = λ c v is. (among_all (CanRun lo hi exit) cars all c v (sym (vehicle_at-array_of cars c) ∙ is)).slow_enough;
}
