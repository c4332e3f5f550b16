-- The loop over the cars that have entered, from the near end on.
use Rattle.std.proofs.Common.{◌≡◌, ◌+◌, ◌/◌, ◌<◌, ◌≤◌, ◌⊎◌, ℕ, length, slice_index}
use Rattle.road_rules.specs.Speeds.{comes_about, slowed_speed}
use Rattle.road_columns.specs.Private.Motion.{chance_at}
use Rattle.road_columns.specs.Private.Pieces.{wanted_at, IsHigh16At}
use Rattle.road_columns.proofs.pieces.advance_between.Given as goal

-- the cars from the end on have moved, the others not
abbrev pub invariant-loop-car : goal.invariant-loop-car
invariant-loop-car l = record {
  first : l.piece.first ≤ l.car;
  last : l.car ≤ l.piece.last;
  from : l.piece.from ≤ l.end;
  to : l.end ≤ l.piece.to;
  as_many_cells : length l.cells ≡ length l.fn.cells;
  as_many_speeds : length l.speeds ≡ length l.fn.speeds;
  before : (i : ℕ) → l.piece.first ≤ i → i < l.car → slice_index l.words.beside.now i < l.end;
  after : (i : ℕ) → l.car ≤ i → i < l.piece.last → l.end ≤ slice_index l.words.beside.now i;
  cells_rest : (q : ℕ) → (q < l.end) ⊎ (l.piece.to ≤ q) → slice_index l.cells q ≡ slice_index l.fn.cells q;
  speeds_rest : (q : ℕ) → (q < l.end) ⊎ (l.piece.to ≤ q) → slice_index l.speeds q ≡ slice_index l.fn.speeds q;
  cells_done : (q : ℕ) → l.end ≤ q → q < l.piece.to → slice_index l.cells q ≡ slice_index l.fn.cells q + slice_index l.speeds q;
  speeds_done : (q : ℕ) → l.end ≤ q → q < l.piece.to → (word : ℕ)
      → (0 < wanted_at l.piece.from l.front l.chances.limit l.fn.cells l.fn.speeds q → IsHigh16At l.words.row.now l.words.index l.piece.last l.words.beside.now l.words.batches.now q (word / 65536))
      → slice_index l.speeds q ≡ slowed_speed (wanted_at l.piece.from l.front l.chances.limit l.fn.cells l.fn.speeds q)
      (comes_about word (chance_at (slice_index l.fn.speeds q) l.chances.standing l.chances.moving));
}

abbrev pub decreases-loop-car : goal.decreases-loop-car
decreases-loop-car l = l.car
