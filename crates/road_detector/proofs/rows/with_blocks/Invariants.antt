-- The loop that marks blocks.
use Rattle.std.proofs.Common.{◌≡◌, ℕ, ◌<◌, length, drop}
use Rattle.std.specs.Prelude.{slice_index}
use Rattle.road_cells.specs.Gap.{is_blocked}
use Rattle.road_detector.specs.Rows.{blocked_letter}
use Rattle.road_detector.proofs.rows.with_blocks.Given as goal

abbrev pub invariant-loop-block : goal.invariant-loop-block
invariant-loop-block l = record {
  same_length : length l.row.items ≡ length l.initial.row.items;
  marked : (c : ℕ) → c < length l.initial.row.items → blocked_letter (is_blocked (drop l.block-index l.blocks) c) (slice_index l.row.items c) ≡ blocked_letter (is_blocked l.blocks c) (slice_index l.initial.row.items c);
}
