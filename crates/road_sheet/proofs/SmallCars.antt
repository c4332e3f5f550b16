-- The cars of a run fit into a checkpoint, and a run under way can start on its roads.
use Rattle.std.specs.Prelude.{◌≡◌, ℕ, ◌+◌, ◌≤◌, ◌<◌, length}
use Rattle.std.specs.List.{slice_index_or}
use Rattle.std.proofs.Common.{sym, ap, ◌∙◌, arith}
use Rattle.std.proofs.lemmas.List.{get_or_default}
use Rattle.road_plan.specs.Plan.{Plan, IsWithinLimits}
use Rattle.road_plan.specs.declared.limits.TheConstants.{GREATEST_HORIZON}
use Rattle.road_cells.specs.Cars.{cars_of, car_of, cell_at, vehicle_of, vehicle_among}
use Rattle.road_cells.specs.declared.car.Car.{Car}
use Rattle.road_cells.proofs.CarLists.{vehicle_among-cars_from, rise-cars_from}
use Rattle.road_cells.proofs.CarPlaces.{vehicle_among-at}
use Rattle.road_columns.specs.UnderWay.{IsRunnable}
use Rattle.road_ends.specs.Laws.{IsOnRoad, StayOnRoad}
use Rattle.road_ends.specs.Run.{Course, run}
use Rattle.road_sheet.specs.Private.Checkpoints.{AreSmall}

module _ (p : Plan) (course : Course) (t : ℕ) (limits : IsWithinLimits p) (early : t ≤ GREATEST_HORIZON) (stay : StayOnRoad p) where
  -- each car is on the road, and is numbered by a step and an inlet
  car_on_road : (k : ℕ) (d : Car) → k < length (cars_of (run p course t)) → IsOnRoad p t (slice_index_or (cars_of (run p course t)) k d).cell (vehicle_of (slice_index_or (cars_of (run p course t)) k d))
  car_on_road k d below =
      let a = run p course t in
      let zero_on : 0 + cell_at (cars_of a) k ≡ cell_at (cars_of a) k = omega arith in
      let there = vehicle_among-at 0 (cars_of a) k d (rise-cars_from 0 a) below in
      let here = stay course t (cell_at (cars_of a) k) (vehicle_of (slice_index_or (cars_of a) k d)) (sym (vehicle_among-cars_from 0 (cell_at (cars_of a) k) a) ∙ ap (λ c. vehicle_among c (cars_of a)) zero_on ∙ there) in
      let same : cell_at (cars_of a) k ≡ (slice_index_or (cars_of a) k d).cell = ap (λ x. x.cell) (get_or_default (cars_of a) k (car_of 0 (record { number = 0; speed = 0 })) d below) in
      let before = here.before_exit in record { before_exit = omega arith; slow_enough = here.slow_enough; has_entered = here.has_entered }

  pub small_cars : AreSmall (cars_of (run p course t))
  small_cars k d below =
      let here = car_on_road k d below in
      let before = here.before_exit in
      let entered = here.has_entered in
      let short = limits.short_enough in record { number = omega arith; cell = omega arith }

  pub runnable : IsRunnable 0 p.cells p (run p course t)
  runnable k d below =
      let here = car_on_road k d below in
      let before = here.before_exit in
      let entered = here.has_entered in
      record { from = omega arith; to = omega arith; before_exit = before; slow_enough = here.slow_enough; short_number = omega arith }
