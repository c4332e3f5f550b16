-- Threads that were started for pieces of a step.
use Rattle.std.specs.Prelude.{◌≡◌, ℕ, ◌+◌, ◌<◌, ◌≤◌, List, length, slice_index_or}
use Rattle.std.specs.declared.thread.PromisedHandle.{PromisedHandle}
use Rattle.road_cells.specs.Cars.{cars_of}
use Rattle.road_ends.specs.Input.{StepInput}
use Rattle.road_workers.specs.Private.Pieces.{piece_start}
use Rattle.road_workers.specs.declared.scoped.SpeedsOf.{SpeedsOf}

-- what was promised is the piece of worker w of this input, of n workers
pub record IsOfWorker (input : StepInput) (n w : ℕ) (promise : SpeedsOf) : Type 0 where
  pub of_input : promise.input.now ≡ input
  pub from : promise.piece.first ≡ piece_start n (length (cars_of input.road)) w
  pub to : promise.piece.end ≡ piece_start n (length (cars_of input.road)) (w + 1)
  pub order : promise.piece.first ≤ promise.piece.end

-- these threads compute the pieces of consecutive workers, in their order, the first of them worker w
abbrev pub AreStartedFrom : {T : Type 0} → StepInput → ℕ → ℕ → List (PromisedHandle T SpeedsOf) → Type 0
AreStartedFrom input n w handles = (k : ℕ) (d : _) → k < length handles
    → IsOfWorker input n (w + k) (slice_index_or handles k d).promise
