-- Events are played, one after another.
use Rattle.std.proofs.Common.{◌≡◌, ◌≤◌, length, take}
use Rattle.std.specs.Vec.{vec_capacity, vec_len}
use Rattle.std.specs.Arc.{arc_value}
use Rattle.road_world.specs.Answers.{gone_after_answers}
use Rattle.road_world.proofs.EventSteps.{IsMetered}
use Rattle.road_world.proofs.PlayedEvents.{IsPlayed}
use Rattle.road_world.proofs.playing.play.Given as goal

-- the world is that of the events so far (only the winners), each of them has its answer and was counted, and there is
-- room for the other answers
abbrev pub invariant-loop-event : goal.invariant-loop-event
invariant-loop-event g l = record {
  played : IsPlayed (arc_value l.fn.plan) l.fn.replicas (take l.event-index l.events) l.replies.items l.world;
  gone : g.C.Crew.times_gone l.crew ≡ gone_after_answers l.replies.items (g.C.Crew.times_gone l.fn.crew);
  metered : IsMetered (arc_value l.fn.plan) l.fn.replicas (take l.event-index l.events) l.replies.items l.fn.meter l.meter;
  answered : vec_len l.replies ≡ l.event-index;
  room : length l.events ≤ vec_capacity l.replies;
}
