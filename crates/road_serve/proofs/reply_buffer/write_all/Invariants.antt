-- The invariant of the loop that writes bytes until all are taken.
use Rattle.std.proofs.Common.{◌≡◌, ◌≤◌, ◌-◌, take, length}
use Rattle.std.specs.Io.KnownBytes.{Appends}
use Rattle.road_serve.proofs.reply_buffer.write_all.Given as goal

-- the sink has taken the bytes before this place
abbrev pub invariant-loop-done : goal.invariant-loop-done
invariant-loop-done g l =
    (l.done ≤ length l.bytes)
    × Appends (g.W.Sink.contents l.initial.writer) (g.W.Sink.contents l.writer) (take l.done l.bytes)
    × (g.W.Sink.failures l.writer ≡ g.W.Sink.failures l.initial.writer)

abbrev pub decreases-loop-done : goal.decreases-loop-done
decreases-loop-done g l = length l.bytes - l.done
