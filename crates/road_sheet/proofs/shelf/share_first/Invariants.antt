-- Values are shared, one after another.
use Rattle.std.proofs.Common.{◌≡◌, map, take}
use Rattle.std.specs.Arc.{arc_value}
use Rattle.road_sheet.proofs.shelf.share_first.Given as goal

-- the values so far are shared
abbrev pub invariant-loop-value : goal.invariant-loop-value
invariant-loop-value g l = map arc_value l.shared.items ≡ map arc_value (take l.value-index l.values)
