-- The first change among ours, object by object.
use Rattle.std.proofs.Common.{◌≡◌}
use Rattle.road_scenario.specs.Private.RegisterWalks.{earlier_step, first_change}
use Rattle.road_scenario.specs.Instances.RegisterLattice.{object_cmp}
use Rattle.road_scenario.proofs.touched.first_change_of.Given as goal

-- the first so far, or the first of what is left
abbrev pub invariant-loop-object : goal.invariant-loop-object
invariant-loop-object l = earlier_step l.first (first_change object_cmp l.object-iterator l.theirs) ≡ first_change object_cmp l.ours l.theirs
