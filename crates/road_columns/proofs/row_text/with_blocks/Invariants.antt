-- The loop that marks blocks.
use Rattle.std.proofs.Common.{◌≡◌, ℕ, ◌<◌, length, drop}
use Rattle.std.specs.Prelude.{slice_index, if◌then◌else◌}
use Rattle.road_cells.specs.Gap.{is_blocked}
use Rattle.road_ends.specs.declared.letters.TheConstants.{BLOCKED}
use Rattle.road_columns.proofs.row_text.with_blocks.Given as goal

abbrev pub invariant-loop-block : goal.invariant-loop-block
invariant-loop-block l = record {
  same_length : length l.row.items ≡ length l.initial.row.items;
  marked : (c : ℕ) → c < length l.initial.row.items
      → (if is_blocked (drop l.block-index l.blocks) c then BLOCKED else slice_index l.row.items c)
      ≡ (if is_blocked l.blocks c then BLOCKED else slice_index l.initial.row.items c);
}
