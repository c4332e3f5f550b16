-- The invariant of the loop that reads the items of a list as texts.
use Rattle.std.proofs.Common.{◌≡◌, drop}
use Rattle.serde_json.specs.View.{items_view}
use Rattle.serde_json.specs.Find.{as_str}
use Rattle.road_format.specs.Fields.{values_of_items}
use Rattle.road_format.specs.Views.{texts}
use Rattle.road_format.proofs.JsonParts.{with_front}
use Rattle.road_format.proofs.lists.texts_in.Given as goal

-- the texts found, followed by those of the items that are left, are all the texts
abbrev pub invariant-loop-item : goal.invariant-loop-item
invariant-loop-item l = with_front (texts l.found.items) (values_of_items as_str (items_view (drop l.item-index l.items))) ≡ values_of_items as_str (items_view l.items)
