-- The free cells up to the next car or block are the smaller of the two counts.
use Rattle.std.proofs.Common.{◌≡◌, sym, ap, ◌+◌, ◌∙◌, arith, min}
use Rattle.std.specs.Option.{is_some}
use Rattle.road_cells.specs.Array.{vehicle_at}
use Rattle.road_cells.specs.Cars.{cars_of, cell_at, vehicle_among}
use Rattle.road_cells.proofs.CarLists.{vehicle_among-cars_from}
use Rattle.road_cells.specs.Gap.{free_before, is_blocked}
use Rattle.road_cells.proofs.FreeCells.{free_before-or, free_before-same}
use Rattle.road_cells.specs.declared.car.TheConstants.{GREATEST_SPEED}
use Rattle.road_cells.proofs.road.Road.gap_to.Goals as goal

pub returns : goal.returns
returns c =
    let a = c.args.self.now in
    let blocks = c.args.blocks.now in
    let cars = c.cars-cars.result.now in
    let cell = cell_at (cars_of a) c.args.place in
    let to_car = c.free_to_car-to_car.ensures
    ∙ ap (λ cars. free_before (λ k. is_some (vehicle_among k cars)) (cell_at cars c.args.place + 1) GREATEST_SPEED) c.cars-cars.ensures.all
    ∙ free_before-same (λ k. is_some (vehicle_among k (cars_of a))) (λ k. is_some (vehicle_at a k)) GREATEST_SPEED (cell + 1)
    (λ k le lt. let here : k ≡ 0 + k = omega arith in ap (λ j. is_some (vehicle_among j (cars_of a))) here ∙ ap is_some (vehicle_among-cars_from 0 k a)) in
    let to_block = c.free_to_block-to_block.ensures ∙ ap (λ cars. free_before (is_blocked blocks) (cell_at cars c.args.place + 1) GREATEST_SPEED) c.cars-cars.ensures.all in
    c.min.ensures ∙ (λ i. min (to_car i) (to_block i)) ∙ sym (free_before-or (λ k. is_some (vehicle_at a k)) (is_blocked blocks) GREATEST_SPEED (cell + 1))
