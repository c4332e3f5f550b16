use Rattle.std.proofs.Common.{◌≡◌, take}
use Rattle.road_ends.specs.Speed.{speeds}
use Rattle.tests_steps.proofs.plain.speeds.Given as goal

abbrev pub invariant-loop-place : goal.invariant-loop-place
invariant-loop-place l = l.new.items ≡ take l.place (speeds l.plan l.settings l.step l.road)
