-- Everything is answered at the end of the input, and written by the flush.
use Rattle.std.proofs.Common.{refl, sym, subst}
use Rattle.std.proofs.lemmas.Result.{err_from_is_err_and}
use Rattle.road_serve.specs.Dialogue.{Dialogue, HasFinished}
use Rattle.road_serve.specs.StreamViews.{sink_view}
use Rattle.road_serve.proofs.DialogueCalls.{flush_stops}
use Rattle.road_serve.proofs.DialogueEnds.{finished_flushed}
use Rattle.road_serve.proofs.dialogue.Dialogue.finish.Goals as goal

pub returns-in_err-answer_last-clause-answered : goal.returns-in_err-answer_last-clause-answered
returns-in_err-answer_last-clause-answered g c lines bytes first h =
    let p = err_from_is_err_and c.from_residual.result c.from_residual.ensures.1 in
    rw (p.1, p.2) (c.in_err-answer_last.ensures.answered lines bytes first h)

pub returns-in_err-flush-clause-answered : goal.returns-in_err-flush-clause-answered
returns-in_err-flush-clause-answered g c lines bytes first h =
    let p = err_from_is_err_and c.from_residual-in_err-flush.result c.from_residual-in_err-flush.ensures.1 in
    let Family : Dialogue → Type 0 = λ d. HasFinished lines bytes first (sink_view g.W.Sink c.answer_last.new.writer) d in
    let all = subst Family (sym c.self.view_is) (c.in_ok-answer_last.ensures.answered lines bytes first h) in
    rw (p.1, p.2) (record {
      stops = flush_stops first _ _ _ c.self.inside.waiting.items all.answered all.well c.in_err-flush.ensures.front c.in_err-flush.ensures.failed;
      counts = c.in_ok-answer_last.ensures.kept;
    })

pub returns-clause-answered : goal.returns-clause-answered
returns-clause-answered g c lines bytes first h =
    let Family : Dialogue → Type 0 = λ d. HasFinished lines bytes first (sink_view g.W.Sink c.answer_last.new.writer) d in
    let all = subst Family (sym c.self.view_is) (c.in_ok-answer_last.ensures.answered lines bytes first h) in
    let after : Dialogue = record {
      laboratory = c.self.inside.laboratory;
      line = c.self.inside.line;
      left = c.self.inside.left;
      waiting = c.flush.new.waiting.items;
      over = c.self.inside.over;
    } in
    finished_flushed lines bytes first (sink_view g.W.Sink c.answer_last.new.writer) (sink_view g.W.Sink c.flush.new.writer) _ after
    all c.in_ok-flush.ensures.all c.in_ok-flush.ensures.well c.in_ok-flush.ensures.none_wait refl refl refl
