-- A reply waits after the others, or is written after them, or the run stops there.
use Rattle.std.proofs.Common.{ℕ, ◌+◌, ◌-◌, ◌^◌, min, refl, ◌∙◌, ◌++◌, [], ap, sym}
use Rattle.std.proofs.lemmas.Result.{err_from_is_err_and}
use Rattle.road_serve.specs.StreamViews.{sink_view}
use Rattle.road_serve.proofs.SinkTexts.{takes_none, takes_all, takes_same, takes_more, front_longer, front_after}
use Rattle.road_serve.proofs.reply_buffer.append_reply.Goals as goal

pub returns-in_err-extend_from_slice-clause-err : goal.returns-in_err-extend_from_slice-clause-err
returns-in_err-extend_from_slice-clause-err g c =
    let p = err_from_is_err_and c.from_residual.result c.from_residual.ensures.1 in
    rw (p.1, p.2) ((c.args.waiting.now.items ++ c.args.reply.now, takes_none _ _), refl)

pub returns-in_err-write_all-clause-err : goal.returns-in_err-write_all-clause-err
returns-in_err-write_all-clause-err g c =
    let p = err_from_is_err_and c.from_residual-in_err-write_all.result c.from_residual-in_err-write_all.ensures.1 in
    rw (p.1, p.2) (front_longer _ _ c.as_slice.result.now c.args.reply.now _ (ap (λ w. w ++ c.args.reply.now) (sym c.as_slice.ensures.value)) c.in_err-write_all.ensures.front, c.in_err-write_all.ensures.failed)

pub returns-in_err-write_all-2-clause-err : goal.returns-in_err-write_all-2-clause-err
returns-in_err-write_all-2-clause-err g c =
    let p = err_from_is_err_and c.from_residual-in_err-write_all-2.result c.from_residual-in_err-write_all-2.ensures.1 in
    let first = sink_view g.W.Sink c.args.writer.now in
    let between = sink_view g.W.Sink c.write_all.new.writer in
    let waited = takes_same first between _ c.args.waiting.now.items [] [] c.as_slice.ensures.value refl (takes_all first between c.as_slice.result.now c.in_ok-write_all.ensures.all) in
    rw (p.1, p.2) (
      front_after first between _ c.args.waiting.now.items [] c.args.reply.now waited c.in_err-write_all-2.ensures.front,
      c.in_err-write_all-2.ensures.failed ∙ ap (λ (k : ℕ). min (k + 1) (2 ^ 64 - 1)) c.in_ok-write_all.ensures.well,
    )

pub returns-clause-ok : goal.returns-clause-ok
returns-clause-ok g c =
    let first = sink_view g.W.Sink c.args.writer.now in
    let between = sink_view g.W.Sink c.write_all.new.writer in
    let last = sink_view g.W.Sink c.write_all-2.new.writer in
    let waited = takes_same first between _ c.args.waiting.now.items [] [] c.as_slice.ensures.value refl (takes_all first between c.as_slice.result.now c.in_ok-write_all.ensures.all) in
    takes_same first last _ _ [] c.clear.new.self.items refl (sym c.clear.ensures.items)
    (takes_more first between last c.args.waiting.now.items [] c.args.reply.now [] waited (takes_all between last c.args.reply.now c.in_ok-write_all-2.ensures.all))
