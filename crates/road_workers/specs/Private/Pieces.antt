-- Pieces of the list of cars, one for each worker.
use Rattle.std.specs.Prelude.{ℕ, ◌+◌, ◌*◌, ◌/◌, List, length}
use Rattle.road_cells.specs.Cars.{cars_of}
use Rattle.road_ends.specs.Input.{StepInput, input_speeds_between}

-- where the piece of worker w begins, if n workers share m cars: by whole division, so that a piece may be empty
abbrev pub piece_start : ℕ → ℕ → ℕ → ℕ
piece_start n m w = w * m / n

-- the speeds of the piece of worker w, of n workers
abbrev pub speeds_of_worker : StepInput → ℕ → ℕ → List ℕ
speeds_of_worker input n w = input_speeds_between input (piece_start n (length (cars_of input.road)) w)
    (piece_start n (length (cars_of input.road)) (w + 1))
