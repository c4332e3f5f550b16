-- The invariant of the loop that reads the items of a list.
use Rattle.std.proofs.Common.{◌≡◌, drop}
use Rattle.serde_json.specs.View.{items_view}
use Rattle.road_format.specs.Fields.{values_of_items}
use Rattle.road_format.proofs.JsonParts.{with_front}
use Rattle.road_format.proofs.lists.list_in.Given as goal

-- the values found, followed by those of the items that are left, are the values of all
abbrev pub invariant-loop-item : goal.invariant-loop-item
invariant-loop-item g l = with_front l.found.items (values_of_items g.T.ListItem.read (items_view (drop l.item-index l.items))) ≡ values_of_items g.T.ListItem.read (items_view l.items)
