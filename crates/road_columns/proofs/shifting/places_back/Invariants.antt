-- The loop over the places.
use Rattle.std.proofs.Common.{◌≡◌, ◌-◌, ◌<◌, ◌≤◌, ℕ, length, slice_index}
use Rattle.road_columns.proofs.shifting.places_back.Given as goal

-- the places so far are moved back, the others not
abbrev pub invariant-loop-place : goal.invariant-loop-place
invariant-loop-place l = record {
  long : length l.places ≡ length l.fn.places;
  done : (d : ℕ) → d < l.place → slice_index l.places d ≡ slice_index l.fn.places d - l.by;
  rest : (d : ℕ) → l.place ≤ d → slice_index l.places d ≡ slice_index l.fn.places d;
}
