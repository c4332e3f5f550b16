-- The first part of each zone so far.
use Rattle.std.proofs.Common.{◌≡◌, map, take}
use Rattle.road_plan.proofs.settings.speed_limits_of.Given as goal

abbrev pub invariant-loop-zone : goal.invariant-loop-zone
invariant-loop-zone l = l.limits.items ≡ map (λ zone. zone.0) (take l.zone-index l.zones)
