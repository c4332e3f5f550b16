-- An item that is read is the next of those found.
use Rattle.std.proofs.Common.{◌∙◌, arith}
use Rattle.road_format.proofs.JsonParts.{next_is_read}
use Rattle.road_format.proofs.lists.list_in.Goals as goal

pub loop-item-preserved : goal.loop-item-preserved
loop-item-preserved g c =
    rw c.in_ok-push.ensures.items (next_is_read g.T.ListItem.read c.args.items.now c.loop-item.item-index c.loop-item.found.items c.item-item.result c.in-Some.read (omega arith) c.item-item.is c.in-Some.ensures
    ∙ c.loop-item.invariant)
