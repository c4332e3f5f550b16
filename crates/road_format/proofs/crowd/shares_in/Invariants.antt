-- The invariant of the loop that reads the shares of a list.
use Rattle.std.proofs.Common.{◌≡◌, drop}
use Rattle.serde_json.specs.View.{items_view}
use Rattle.road_format.specs.EditGrammar.{edits_in}
use Rattle.road_format.specs.Fields.{values_of_items}
use Rattle.road_format.specs.Views.{shares_view}
use Rattle.road_format.proofs.JsonParts.{with_front}
use Rattle.road_format.proofs.crowd.shares_in.Given as goal

-- the shares found, followed by those of the items that are left, are all the shares
abbrev pub invariant-loop-item : goal.invariant-loop-item
invariant-loop-item l = with_front (shares_view l.found.items) (values_of_items edits_in (items_view (drop l.item-index l.items))) ≡ values_of_items edits_in (items_view l.items)
