-- The loop over the regions, from the near end on.
use Rattle.std.proofs.Common.{◌≡◌, ◌+◌, ◌/◌, ◌<◌, ◌≤◌, ◌⊎◌, ℕ, length, slice_index}
use Rattle.road_rules.specs.Speeds.{comes_about, slowed_speed}
use Rattle.road_columns.specs.Private.Motion.{chance_at}
use Rattle.road_columns.specs.Private.Pieces.{IsHigh16At}
use Rattle.road_columns.specs.Private.Regions.{IsOfRegion, region_at, wish_at}
use Rattle.road_columns.proofs.regions.advance_regions.Given as goal

-- the cars of the regions so far have moved, the others not
abbrev pub invariant-loop-place : goal.invariant-loop-place
invariant-loop-place l = record {
  last : l.last ≤ l.piece.last;
  low : l.piece.from ≤ l.to;
  high : l.to ≤ l.piece.to;
  to_is : l.place < length l.regions → l.to ≡ slice_index l.ends l.place;
  to_end : length l.regions ≤ l.place → l.to ≡ l.piece.from;
  as_many_cells : length l.cells ≡ length l.fn.cells;
  as_many_speeds : length l.speeds ≡ length l.fn.speeds;
  before : (i : ℕ) → i < l.last → slice_index l.words.beside.now i < l.to;
  after : (i : ℕ) → l.last ≤ i → i < l.piece.last → l.to ≤ slice_index l.words.beside.now i;
  cells_rest : (q : ℕ) → (q < l.to) ⊎ (l.piece.to ≤ q) → slice_index l.cells q ≡ slice_index l.fn.cells q;
  speeds_rest : (q : ℕ) → (q < l.to) ⊎ (l.piece.to ≤ q) → slice_index l.speeds q ≡ slice_index l.fn.speeds q;
  cells_done : (q : ℕ) → l.to ≤ q → q < l.piece.to → slice_index l.cells q ≡ slice_index l.fn.cells q + slice_index l.speeds q;
  done_from : (r q : ℕ) → r < l.place → IsOfRegion (length l.regions) l.ends r q → l.piece.from ≤ q → l.to ≤ q;
  speeds_done : (r q : ℕ) → r < l.place → IsOfRegion (length l.regions) l.ends r q → l.piece.from ≤ q → (word : ℕ)
      → (0 < wish_at (region_at l.regions r).chances.limit (region_at l.regions r).block l.fn.cells l.fn.speeds q → IsHigh16At l.words.row.now l.words.index l.piece.last l.words.beside.now l.words.batches.now q (word / 65536))
      → slice_index l.speeds q ≡ slowed_speed (wish_at (region_at l.regions r).chances.limit (region_at l.regions r).block l.fn.cells l.fn.speeds q)
      (comes_about word (chance_at (slice_index l.fn.speeds q) (region_at l.regions r).chances.standing (region_at l.regions r).chances.moving));
}
