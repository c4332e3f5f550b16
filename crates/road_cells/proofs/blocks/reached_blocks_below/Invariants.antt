-- The walk down the blocks, as far as they are in front of the cell.
use Rattle.std.proofs.Common.{ℕ, ◌<◌, ◌≤◌, length}
use Rattle.std.specs.Prelude.{slice_index}
use Rattle.road_cells.proofs.blocks.reached_blocks_below.Given as goal

abbrev pub invariant-loop-reached : goal.invariant-loop-reached
invariant-loop-reached l = (l.reached ≤ l.fn.most) × ((i : ℕ) → l.reached ≤ i → i < length l.blocks → l.cell < slice_index l.blocks i)

abbrev pub decreases-loop-reached : goal.decreases-loop-reached
decreases-loop-reached l = l.reached
