-- The pieces of all workers, one after another, are the whole.
use Rattle.std.specs.Prelude.{◌≡◌, ℕ, ◌+◌, ◌-◌, ◌<◌, ◌≤◌, List, ◌++◌, length, take, slice_range, slice_index_or, IfSome}
use Rattle.std.specs.declared.option.Option.{Option}
use Rattle.std.proofs.Common.{rules, sym, ap, ◌∙◌, arith}
use Rattle.std.proofs.Math.Nat.{mul-div_cancel_left}
use Rattle.std.proofs.Math.Seq.{take-add}
use Rattle.std.proofs.lemmas.List.{take_all}
use Rattle.road_cells.specs.Array.{Array}
use Rattle.road_cells.specs.Cars.{cars_of}
use Rattle.road_cells.proofs.CarPlaces.{length-cars_from}
use Rattle.road_ends.specs.Input.{StepInput, input_speeds}
use Rattle.road_ends.proofs.PassOverCars.{speed_each}
use Rattle.road_workers.specs.Private.Pieces.{piece_start}

pub few_cars : (a : Array) → length (cars_of a) ≤ length a
few_cars a = length-cars_from 0 a

pub take_piece : (xs : List ℕ) (first end : ℕ) → first ≤ end → take first xs ++ slice_range xs first end ≡ take end xs
take_piece xs first end order = sym (take-add first (end - first) xs) ∙ ap (λ n. take n xs) (omega arith)

-- a piece ends where it begins or later
pub pieces_rise : (n m w : ℕ) → piece_start n m w ≤ piece_start n m (w + 1)
pieces_rise n m w = search rules

-- the last piece ends after the last car
pub all_pieces : (n m : ℕ) → 0 < n → piece_start n m n ≡ m
all_pieces n m some = mul-div_cancel_left m some

-- so the speeds before the end of the last piece are all speeds
pub whole_step : (input : StepInput) (n : ℕ) → 0 < n → take (piece_start n (length (cars_of input.road)) n) (input_speeds input) ≡ input_speeds input
whole_step input n some =
    let all = all_pieces n (length (cars_of input.road)) some in
    let each = speed_each input.plan input.settings input.step input.road in
    take_all (piece_start n (length (cars_of input.road)) n) (input_speeds input) (omega arith)

-- each answer that has come is right, if the first place is that of worker w
abbrev pub AreRightFrom : {A : Type 0} → (ℕ → A → Type 0) → ℕ → List (Option A) → Type 0
AreRightFrom {A} right w places = (k : ℕ) (d : Option A) → k < length places → IfSome (slice_index_or places k d) (right (w + k))
