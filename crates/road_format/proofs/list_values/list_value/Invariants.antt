-- The invariant of the loop that writes a list.
use Rattle.std.proofs.Common.{◌≡◌, ◌++◌, map, drop}
use Rattle.serde_json.specs.View.{view}
use Rattle.road_format.proofs.list_values.list_value.Given as goal

-- the values so far, followed by those of the items that are left, are the values of all
abbrev pub invariant-loop-item : goal.invariant-loop-item
invariant-loop-item g l = map view l.values.items ++ map g.T.ToValue.as_data (drop l.item-index l.items) ≡ map g.T.ToValue.as_data l.items
