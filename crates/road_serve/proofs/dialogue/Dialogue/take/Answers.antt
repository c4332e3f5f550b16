-- One more piece is taken and answered, and everything is written by the flush.
use Rattle.std.proofs.Common.{◌≡◌, ◌∙◌, ◌++◌, ℕ, List, false, take, length, refl, ap, sym, subst, arith, length-drop}
use Rattle.std.proofs.lemmas.List.{take_all}
use Rattle.std.proofs.lemmas.Result.{err_from_is_err_and}
use Rattle.road_serve.specs.Answers.{answers, has_crowd}
use Rattle.road_serve.specs.Dialogue.{Dialogue, HasAnswered}
use Rattle.road_serve.specs.StreamViews.{sink_view}
use Rattle.road_serve.proofs.ByteParts.{from_place}
use Rattle.road_serve.proofs.DialogueCalls.{answered_same, stops_same, part_then_part, both_parts, flush_stops, flushed}
use Rattle.road_serve.proofs.GoneCounts.{counts_same}
use Rattle.road_serve.proofs.dialogue.Dialogue.take.Goals as goal

pub loop-done-preserved : goal.loop-done-preserved
loop-done-preserved g c =
    let done = c.loop-done.done in
    let b = c.args.bytes.now in
    let rest = from_place done b in
    let i = c.loop-done.invariant in (
      omega (arith, i.0, c.in_ok-done.ensures.taken.1, ap (λ (x : List ℕ). length x) rest, length-drop done b),
      λ lines before first h.
          let x = c.in_ok-done.ensures.answered lines (before ++ take done b) first (i.1 lines before first h) in
          answered_same lines _ _ first _ c.take_line.new.self (part_then_part before b done c.in_ok-done.field-0) (rw rest at x),
      c.in_ok-done.ensures.kept ∙ i.2,
    )

pub returns-in_err-done-clause-answered : goal.returns-in_err-done-clause-answered
returns-in_err-done-clause-answered g c lines before first h =
    let done = c.loop-done.done in
    let b = c.args.bytes.now in
    let i = c.loop-done.invariant in
    let p = err_from_is_err_and c.from_residual.result c.from_residual.ensures.1 in
    let x = c.in_err-done.ensures.answered lines (before ++ take done b) first (i.1 lines before first h) in
    let whole = ap (λ (z : List ℕ). (before ++ take done b) ++ z) (from_place done b) ∙ both_parts before b done in
    rw (p.1, p.2) (record {
      stops = stops_same first _ _ _ _ (ap (λ (y : List ℕ). answers lines y false) whole) x.stops;
      counts = counts_same _ _ _ _ _ _ (ap (λ (y : List ℕ). has_crowd lines y false) whole) i.2 x.counts;
    })

pub returns-in_err-flush-clause-answered : goal.returns-in_err-flush-clause-answered
returns-in_err-flush-clause-answered g c lines before first h =
    let done = c.loop-done.done in
    let b = c.args.bytes.now in
    let i = c.loop-done.invariant in
    let whole : take done b ≡ b = take_all done b (omega (arith, i.0, c.loop-done-test.false)) in
    let p = err_from_is_err_and c.from_residual-in_err-flush.result c.from_residual-in_err-flush.ensures.1 in
    let Family : Dialogue → Type 0 = λ d. HasAnswered lines (before ++ b) first (sink_view g.W.Sink c.loop-done.writer) d in
    let all = subst Family (sym c.self.view_is) (answered_same lines _ (before ++ b) first _ c.loop-done.self (ap (λ (x : List ℕ). before ++ x) whole) (i.1 lines before first h)) in
    rw (p.1, p.2) (record { stops = flush_stops first _ _ _ c.self.inside.waiting.items all.answered all.well c.in_err-flush.ensures.front c.in_err-flush.ensures.failed; counts = i.2 })

pub returns-clause-answered : goal.returns-clause-answered
returns-clause-answered g c lines before first h =
    let done = c.loop-done.done in
    let b = c.args.bytes.now in
    let i = c.loop-done.invariant in
    let whole : take done b ≡ b = take_all done b (omega (arith, i.0, c.loop-done-test.false)) in
    let Family : Dialogue → Type 0 = λ d. HasAnswered lines (before ++ b) first (sink_view g.W.Sink c.loop-done.writer) d in
    let all = subst Family (sym c.self.view_is) (answered_same lines _ (before ++ b) first _ c.loop-done.self (ap (λ (x : List ℕ). before ++ x) whole) (i.1 lines before first h)) in
    let after : Dialogue = record {
      laboratory = c.self.inside.laboratory;
      line = c.self.inside.line;
      left = c.self.inside.left;
      waiting = c.flush.new.waiting.items;
      over = c.self.inside.over;
    } in
    flushed lines (before ++ b) first (sink_view g.W.Sink c.loop-done.writer) (sink_view g.W.Sink c.flush.new.writer) _ after
    all c.in_ok-flush.ensures.all c.in_ok-flush.ensures.well c.in_ok-flush.ensures.none_wait refl refl refl refl
