-- The loop over the cars.
use Rattle.std.specs.Prelude.{◌≡◌, ◌≢◌, ℕ, ◌+◌, ◌<◌, length, slice_index}
use Rattle.road_ends.specs.declared.letters.TheConstants.{STANDING}
use Rattle.road_columns.proofs.row_text.mark_cars.Given as goal

-- the cars so far are marked, and nothing else
abbrev pub invariant-loop-car : goal.invariant-loop-car
invariant-loop-car l = record {
  long : length l.row ≡ length l.fn.row;
  cars : (i : ℕ) → i < l.car → slice_index l.row (slice_index l.cells i) ≡ STANDING + slice_index l.speeds i;
  rest : (c : ℕ) → ((i : ℕ) → i < l.car → slice_index l.cells i ≢ c) → slice_index l.row c ≡ slice_index l.fn.row c;
}
