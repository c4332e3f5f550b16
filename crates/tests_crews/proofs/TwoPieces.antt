-- The speeds of two pieces, one after the other, are the speeds of all cars.
use Rattle.std.specs.Prelude.{◌≡◌, ℕ, ◌≤◌, ◌++◌, length, slice_range}
use Rattle.std.proofs.Common.{ap, ◌∙◌, arith}
use Rattle.std.proofs.lemmas.List.{take_all}
use Rattle.road_cells.specs.Cars.{cars_of}
use Rattle.road_ends.specs.Input.{StepInput, input_speeds}
use Rattle.road_ends.proofs.PassOverCars.{speed_each}
use Rattle.road_workers.proofs.PiecesInOrder.{take_piece}

pub two_pieces : (input : StepInput) (middle : ℕ) → middle ≤ length (cars_of input.road) →
    slice_range (input_speeds input) 0 middle ++ slice_range (input_speeds input) middle (length (cars_of input.road)) ≡ input_speeds input
two_pieces input middle within =
    let each = speed_each input.plan input.settings input.step input.road in
    let front = take_piece (input_speeds input) 0 middle (omega arith) in
    let both = take_piece (input_speeds input) middle (length (cars_of input.road)) within in
    ap (λ l. l ++ slice_range (input_speeds input) middle (length (cars_of input.road))) front ∙ both
    ∙ take_all (length (cars_of input.road)) (input_speeds input) (omega arith)
