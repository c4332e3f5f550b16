-- A binary search divides the blocks at the cell.
use Rattle.std.proofs.Common.{rules, of_calls, nat_le}
use Rattle.std.proofs.lemmas.Fn.{always_returns_same}
use Rattle.road_cells.proofs.CellsAhead.{parted, parted_at}
use Rattle.road_cells.proofs.blocks.reached_blocks.Goals as goal

pub returns-clause-parted : goal.returns-clause-parted
returns-clause-parted c =
    parted_at c.args.blocks.now c.args.cell c.partition_point.result
    (c.partition_point.ensures.partitioned (λ block. nat_le block c.args.cell) (always_returns_same _ _ _ (λ a r f k. search (rules, of_calls))) (parted c.args.blocks.now c.args.cell c.requires))
