-- The input of the step, its speeds, and the road after it.
use Rattle.road_ends.proofs.alone.step_alone.Goals as goal

pub returns-clause-input : goal.returns-clause-input
returns-clause-input c = c.in_ok-input.ensures

pub returns-clause-speeds : goal.returns-clause-speeds
returns-clause-speeds c = let speeds = c.in_ok-speeds.ensures in rw (c.deref.ensures, c.in_ok-input.ensures) at speeds

pub returns-clause-road : goal.returns-clause-road
returns-clause-road c = let step = c.in_ok-road.ensures.step in rw (c.deref-2.ensures, c.in_ok-input.ensures) at step
