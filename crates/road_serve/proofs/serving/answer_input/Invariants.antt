-- The invariant of the loop that reads an input piece by piece.
use Rattle.std.proofs.Common.{◌≡◌}
use Rattle.road_serve.specs.StreamViews.{source_view, sink_view}
use Rattle.road_serve.proofs.RunEnds.{SoFar}
use Rattle.road_serve.proofs.serving.answer_input.Given as goal

-- some input was read and answered, and no call failed; no worker has gone
abbrev pub invariant-loop-count : goal.invariant-loop-count
invariant-loop-count g l =
    SoFar l.limits.lines l.limits.bytes l.room (source_view g.R.Source l.initial.reader) (source_view g.R.Source l.reader)
    (sink_view g.W.Sink l.initial.writer) (sink_view g.W.Sink l.writer) l.dialogue
    × (g.C.Crew.times_gone l.crew ≡ g.C.Crew.times_gone l.initial.crew)

abbrev pub decreases-loop-count : goal.decreases-loop-count
decreases-loop-count g l = l.room
