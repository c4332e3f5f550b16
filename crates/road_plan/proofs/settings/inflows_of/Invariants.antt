-- The second part of each inlet so far.
use Rattle.std.proofs.Common.{◌≡◌, map, take}
use Rattle.road_plan.proofs.settings.inflows_of.Given as goal

abbrev pub invariant-loop-inlet : goal.invariant-loop-inlet
invariant-loop-inlet l = l.inflows.items ≡ map (λ inlet. inlet.1) (take l.inlet-index l.inlets)
