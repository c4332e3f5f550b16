-- A binary search finds exactly the blocked cells.
use Rattle.std.proofs.Common.{◌∙◌}
use Rattle.road_cells.proofs.BlockSearch.{searched}
use Rattle.road_cells.proofs.blocks.is_blocked.Goals as goal

pub returns : goal.returns
returns c = c.is_ok.ensures.value ∙ searched c.args.blocks.now c.args.cell c.requires c.binary_search.result c.binary_search.ensures.bound c.binary_search.ensures.position
