-- A list of more or fewer than two items is not a pair.
use Rattle.std.proofs.Common.{sym, arith}
use Rattle.road_format.proofs.JsonParts.{two_items-other}
use Rattle.road_format.proofs.lists.two_items.Goals as goal

pub returns-then-items-ne2 : goal.returns-then-items-ne2
returns-then-items-ne2 c = sym (two_items-other c.args.items.now (omega arith))
