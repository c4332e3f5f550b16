-- The invariant of the loop that takes the bytes line by line.
use Rattle.std.proofs.Common.{◌≡◌, ◌≤◌, ◌-◌, ◌++◌, ℕ, List, take, length}
use Rattle.road_serve.specs.Dialogue.{HasAnswered}
use Rattle.road_serve.specs.StreamViews.{SinkView, sink_view}
use Rattle.road_serve.proofs.dialogue.Dialogue.take.Given as goal

-- the dialogue has taken the bytes before this place
abbrev pub invariant-loop-done : goal.invariant-loop-done
invariant-loop-done g l =
    (l.done ≤ length l.bytes)
    × ((lines : ℕ) (before : List ℕ) (first : SinkView) → HasAnswered lines before first (sink_view g.W.Sink l.initial.writer) l.initial.self
    → HasAnswered lines (before ++ take l.done l.bytes) first (sink_view g.W.Sink l.writer) l.self)
    × (g.C.Crew.times_gone l.crew ≡ g.C.Crew.times_gone l.initial.crew)

abbrev pub decreases-loop-done : goal.decreases-loop-done
decreases-loop-done g l = length l.bytes - l.done
