-- An item is written after those before it.
use Rattle.std.proofs.Common.{◌∙◌, arith}
use Rattle.road_format.proofs.JsonParts.{next_is_written}
use Rattle.road_format.proofs.list_values.list_value.Goals as goal

pub loop-item-preserved : goal.loop-item-preserved
loop-item-preserved g c =
    rw c.in_ok-push.ensures.items (next_is_written g.T.ToValue.as_data c.args.items.now c.loop-item.item-index c.loop-item.values.items c.item-item.result c.in_ok-to_value.field-0 (omega arith) c.item-item.is c.in_ok-to_value.ensures
    ∙ c.loop-item.invariant)
