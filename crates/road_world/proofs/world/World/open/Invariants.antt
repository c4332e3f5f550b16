-- Replicas are opened, one after another.
use Rattle.std.specs.Arc.{arc_value}
use Rattle.road_world.proofs.KeptWorlds.{AreOpened}
use Rattle.road_world.proofs.world.World.open.Given as goal

-- the replicas so far are as before any event
abbrev pub invariant-loop-number : goal.invariant-loop-number
invariant-loop-number l = AreOpened (arc_value l.plan) l.number l.opened.items
