-- The cars near a stretch, of a road whose cars can be held in a run.
use Rattle.std.specs.Prelude.{◌≡◌, ℕ, zero, suc, ◌+◌, ◌-◌, ◌*◌, ◌<◌, ◌≤◌, List, [], ◌∷◌, map, min, refl}
use Rattle.std.specs.List.{All, range_with_len}
use Rattle.std.specs.declared.option.Option.{Option}
use Rattle.std.specs.declared.option.Option.TheVariants.{None, Some}
use Rattle.std.proofs.Common.{sym, subst, ◌∙◌, inl, inr, arith}
use Rattle.std.proofs.lemmas.Bool.{cases_eq}
use Rattle.std.proofs.lemmas.Option.{none-some}
use Rattle.road_plan.specs.Plan.{exit_start}
use Rattle.road_cells.specs.Array.{Array, Vehicle, vehicle_at}
use Rattle.road_cells.specs.Cars.{array_of, car_of, cars_from, cars_of, vehicle_among, vehicle_of}
use Rattle.road_cells.specs.declared.car.Car.{Car}
use Rattle.road_cells.specs.declared.car.TheConstants.{GREATEST_SPEED}
use Rattle.road_cells.proofs.CarLists.{cars_of-array_of, vehicle_among-here, vehicle_among-other}
use Rattle.road_ends.specs.Span.{Span}
use Rattle.road_columns.specs.UnderWay.{CanRun, IsRunnable}
use Rattle.road_columns.proofs.CarsByPlaces.{among_cars}
use Rattle.road_workers.specs.Private.Stretches.{IsRunnableNear, cars_between}
use Rattle.road_workers.proofs.StretchCars.{between_rises}

-- what holds for all cars holds for the car at a cell
among_all : (P : Car → Type 0) (cars : List Car) → All P cars → (c : ℕ) (v : Vehicle) → vehicle_among c cars ≡ Some v → P (car_of c v)
among_all P [] all c v is = absurd (none-some v is)
among_all P (car ∷ cars) all c v is = elim (cases_eq car.cell c) as (λ _. P (car_of c v)) [
  | inl here ↦
      let same : Some (vehicle_of car) ≡ Some v = sym (vehicle_among-here car cars c here) ∙ is in
      let of : vehicle_of car ≡ v = cc in
      subst P (λ i. record { number = (of i).number; cell = here i; speed = (of i).speed }) (all 0 car (omega arith))
  | inr other ↦ among_all P cars (λ j d below. all (suc j) d (omega arith)) c v (sym (vehicle_among-other car cars c other) ∙ is)
]

-- what holds for the vehicle at each of some cells holds for all cars there
all_among : (P : Car → Type 0) (f : ℕ → Option Vehicle) (lo n : ℕ) → ((c : ℕ) (v : Vehicle) → lo ≤ c → c < lo + n → f c ≡ Some v → P (car_of c v)) → All P (cars_from lo (map f (range_with_len lo n)))
all_among P f lo zero each = λ j d below. absurd (omega arith)
all_among P f lo (suc n) each = by (f lo) refl (all_among P f (lo + 1) n (λ c v above below at. each c v (omega arith) (omega arith) at))
  where
    by : (o : Option Vehicle) → f lo ≡ o → All P (cars_from (lo + 1) (map f (range_with_len (lo + 1) n))) → All P (cars_from lo (o ∷ map f (range_with_len (lo + 1) n)))
    by None is rest j d below = rest j d below
    by (Some v) is rest zero d below = each lo v (omega arith) (omega arith) is
    by (Some v) is rest (suc j) d below = rest j d (omega arith)

-- the cars near a stretch can be held in a run
pub near_runnable : (lo hi : ℕ) (span : Span) (a : Array) (cars : List Car) → IsRunnable 0 span.plan.cells span.plan a
    → cars ≡ cars_between (lo - GREATEST_SPEED * span.steps) (hi + GREATEST_SPEED * span.steps) a → IsRunnableNear lo hi span (array_of cars)
near_runnable lo hi span a cars all are =
    let from = lo - GREATEST_SPEED * span.steps in
    let to = hi + GREATEST_SPEED * span.steps in
    subst (All (CanRun from (min to span.plan.cells) (exit_start span.plan))) (sym (cars_of-array_of cars (between_rises a from to cars are) ∙ are))
    (all_among (CanRun from (min to span.plan.cells) (exit_start span.plan)) (vehicle_at a) from (to - from) (λ c v above below at.
    let its = among_all (CanRun 0 span.plan.cells (exit_start span.plan)) (cars_of a) all c v (among_cars a c ∙ at) in
    let end = its.to in
    record {
      from = above;
      to = omega arith;
      before_exit = its.before_exit;
      slow_enough = its.slow_enough;
      short_number = its.short_number;
    }))
