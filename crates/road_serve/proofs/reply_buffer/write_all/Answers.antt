-- Each write takes the next bytes, and after a failed one a prefix of them was taken.
use Rattle.std.proofs.Common.{arith, ◌∙◌, length-drop}
use Rattle.std.proofs.Math.Seq.{take-add}
use Rattle.std.proofs.KnownBytes.{Appends-kept, Appends-trans}
use Rattle.std.proofs.lemmas.Result.{err_from_is_err_and}
use Rattle.road_serve.specs.StreamViews.{sink_view}
use Rattle.road_serve.proofs.SinkTexts.{front_taken}
use Rattle.road_serve.proofs.ByteParts.{from_place}
use Rattle.road_serve.proofs.reply_buffer.write_all.Goals as goal

pub loop-done-preserved : goal.loop-done-preserved
loop-done-preserved g c =
    let taken = rw (from_place c.loop-done.done c.args.bytes.now) at c.in_ok-count.ensures.bytes in (
      omega (arith, c.in_ok-count.ensures.within, length-drop c.loop-done.done c.args.bytes.now),
      rw (take-add c.loop-done.done c.in_ok-count.count c.args.bytes.now)
          (Appends-trans _ (g.W.Sink.contents c.loop-done.writer) _ _ _ c.loop-done.invariant.1 taken),
      c.in_ok-count.ensures.well ∙ c.loop-done.invariant.2,
    )

pub returns-in_err-count-clause-front : goal.returns-in_err-count-clause-front
returns-in_err-count-clause-front g c =
    let p = err_from_is_err_and c.from_residual.result c.from_residual.ensures.1 in
    rw p.1
    (front_taken (sink_view g.W.Sink c.args.writer.now) (sink_view g.W.Sink c.write.new.self) c.args.bytes.now c.loop-done.done
    (Appends-kept _ (g.W.Sink.contents c.loop-done.writer) _ _ c.loop-done.invariant.1 c.in_err-count.ensures.bytes))
