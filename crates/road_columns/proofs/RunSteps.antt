-- One step of the road that columns hold.
use Rattle.std.specs.Prelude.{◌≡◌, ℕ, ◌+◌, ◌<◌, ◌≤◌, ◌⊎◌, min}
use Rattle.std.proofs.Common.{sym, subst, arith}
use Rattle.std.specs.declared.option.Option.TheVariants.{None}
use Rattle.road_plan.specs.Plan.{Plan, exit_start}
use Rattle.road_plan.specs.Settings.{Settings}
use Rattle.road_cells.specs.Array.{Array, vehicle_at}
use Rattle.road_cells.specs.declared.car.TheConstants.{GREATEST_SPEED}
use Rattle.road_rules.specs.Motion.{arrival_at}
use Rattle.road_ends.specs.Input.{input_next}
use Rattle.road_ends.specs.EntriesBetween.{entries_between, input_between}
use Rattle.road_ends.specs.Speed.{speed}
use Rattle.road_columns.specs.Private.Cars.{AreCarsOf, road_of}
use Rattle.road_columns.specs.Private.Held.{StandOn}
use Rattle.road_columns.specs.Private.Step.{AreCarsInColumn}
use Rattle.road_columns.specs.declared.cars.CarColumns.{CarColumns}
use Rattle.road_columns.proofs.HeldCars.{columns_of_held, held_is}
use Rattle.road_columns.proofs.StretchSteps.{nobody_outside, stand_after}

-- columns before a step, made ready for it, and after it
module _ (p : Plan) (s : Settings) (t lo hi : ℕ) (cars ready done : CarColumns) (are : AreCarsInColumn p cars.head cars.tail cars.cells.items) (stand : StandOn lo hi (road_of cars))
    (made_ready : (a : Array) → AreCarsOf a cars → AreCarsOf a ready) where
  pub ready_cars : AreCarsOf (road_of cars) ready
  ready_cars = made_ready (road_of cars) (columns_of_held cars.cells.items cars.speeds.items cars.numbers.items cars.head cars.tail (let inside = are.inside in omega arith) are.falling)

  pub nobody_else : (c : ℕ) → (c < lo) ⊎ (hi ≤ c) → vehicle_at (road_of cars) c ≡ None
  nobody_else = nobody_outside lo hi (road_of cars) stand

  module _ (after : AreCarsInColumn p done.head done.tail done.cells.items)
      (next : (a : Array) → ((c : ℕ) → (c < lo) ⊎ (hi ≤ c) → vehicle_at a c ≡ None) → AreCarsOf a ready → AreCarsOf (input_next (input_between lo hi p s t a)) done) where
    pub road_run : road_of done ≡ input_next (input_between lo hi p s t (road_of cars))
    road_run =
        let entered = entries_between lo hi p s t (road_of cars) in
        held_is (exit_start p) (arrival_at (speed p s t entered) entered) done.cells.items done.speeds.items done.numbers.items done.head done.tail (let inside = after.inside in omega arith) after.falling
        (next (road_of cars) nobody_else ready_cars)

    pub stand_run : hi ≤ p.cells → StandOn lo (min (hi + GREATEST_SPEED) p.cells) (road_of done)
    stand_run on_road = subst (StandOn lo (min (hi + GREATEST_SPEED) p.cells)) (sym road_run) (stand_after p s t lo hi (road_of cars) on_road)
