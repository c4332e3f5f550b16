-- The second part of each zone so far.
use Rattle.std.proofs.Common.{◌≡◌, map, take}
use Rattle.road_plan.proofs.settings.chances_of.Given as goal

abbrev pub invariant-loop-zone : goal.invariant-loop-zone
invariant-loop-zone l = l.chances.items ≡ map (λ zone. zone.1) (take l.zone-index l.zones)
