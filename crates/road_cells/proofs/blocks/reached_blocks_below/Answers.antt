-- No block after those that were passed is reached.
use Rattle.std.proofs.Common.{rules}
use Rattle.road_cells.proofs.blocks.reached_blocks_below.Goals as goal

pub returns-after-loop-reached-clause-parted : goal.returns-after-loop-reached-clause-parted
returns-after-loop-reached-clause-parted c = search rules
