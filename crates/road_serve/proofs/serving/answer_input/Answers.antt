-- Each way out of the loop that reads an input ends the run as it promises.
use Rattle.std.proofs.Common.{◌<◌, ◌-◌, ◌∙◌, ℕ, length, refl, ap, sym, arith}
use Rattle.std.proofs.lemmas.Result.{err_from_is_err_and}
use Rattle.road_serve.specs.StreamViews.{source_view, sink_view}
use Rattle.road_serve.proofs.RunEnds.{at_first, ReadMore, read_on, unread, stopped, over, past, stopped_at_end, refused_at_end, ended_well}
use Rattle.road_serve.proofs.GoneCounts.{counts_same}
use Rattle.road_serve.proofs.serving.answer_input.Goals as goal

pub loop-count-init : goal.loop-count-init
loop-count-init g c = (at_first c.args.limits.lines c.args.limits.bytes _ _ _ (c.requires.none_came _) c.requires.going c.requires.none_wait, refl)

pub returns-in_err-count : goal.returns-in_err-count
returns-in_err-count g c =
    let p = err_from_is_err_and c.from_residual.result c.from_residual.ensures.1 in
    let l = c.loop-count in
    rw (p.1, p.2) (unread c.args.limits.lines c.args.limits.bytes l.room _ (source_view g.R.Source l.reader) (source_view g.R.Source c.read.new.self) _ _ _ _ l.dialogue l.invariant.0 c.in_err-count.ensures.bytes c.in_err-count.ensures.failed l.invariant.1)

pub returns-in_err-finish : goal.returns-in_err-finish
returns-in_err-finish g c =
    let p = err_from_is_err_and c.from_residual-in_err-finish.result c.from_residual-in_err-finish.ensures.1 in
    let l = c.loop-count in
    let e = c.in_ok-count.ensures in
    let s1 = source_view g.R.Source l.reader in
    let s2 = source_view g.R.Source c.read.new.self in
    let more : ReadMore s1 s2 c.in_ok-count.count c.read.new.piece = record { bytes = e.bytes.0; fits = e.within; ended = e.ended; well = e.well } in
    let at_end = c.in_err-finish.ensures.answered c.args.limits.lines l.invariant.0.input _ l.invariant.0.answered in
    rw (p.1, p.2)
    (stopped_at_end c.args.limits.lines c.args.limits.bytes l.room c.in_ok-count.count _ s1 s2 _ _ _ _ _ l.dialogue c.read.new.piece _ l.invariant.0 more c.if-count-eq0.true at_end.stops
    (counts_same _ _ _ _ _ _ refl l.invariant.1 at_end.counts))

pub returns-in_err-take : goal.returns-in_err-take
returns-in_err-take g c =
    let p = err_from_is_err_and c.from_residual-in_err-take.result c.from_residual-in_err-take.ensures.1 in
    let l = c.loop-count in
    let e = c.in_ok-count.ensures in
    let s1 = source_view g.R.Source l.reader in
    let s2 = source_view g.R.Source c.read.new.self in
    let more : ReadMore s1 s2 c.in_ok-count.count c.read.new.piece = record { bytes = e.bytes.0; fits = e.within; ended = e.ended; well = e.well } in
    let piece = c.in_err-take.ensures.answered c.args.limits.lines l.invariant.0.input _ l.invariant.0.answered in
    rw (p.1, p.2)
    (stopped c.args.limits.lines c.args.limits.bytes l.room c.in_ok-count.count c.bytes_within-within.result _ s1 s2 _ _ _ _ _ l.dialogue c.read.new.piece _ l.invariant.0 more c.if-count-eq0.false c.bytes_within-within.ensures
    piece.stops
    (counts_same _ _ _ _ _ _ refl l.invariant.1 piece.counts))

pub returns-in-Some-early_end : goal.returns-in-Some-early_end
returns-in-Some-early_end g c =
    let l = c.loop-count in
    let e = c.in_ok-count.ensures in
    let s1 = source_view g.R.Source l.reader in
    let s2 = source_view g.R.Source c.read.new.self in
    let k2 = sink_view g.W.Sink c.take.new.writer in
    let more : ReadMore s1 s2 c.in_ok-count.count c.read.new.piece = record { bytes = e.bytes.0; fits = e.within; ended = e.ended; well = e.well } in
    rw (c.fault-in-Some-early_end.ensures)
    (over c.args.limits.lines c.args.limits.bytes l.room c.in_ok-count.count c.bytes_within-within.result _ s1 s2 _ _ k2 _ _ l.dialogue c.take.new.self c.read.new.piece c.in-Some-early_end.end l.invariant.0 more c.if-count-eq0.false c.bytes_within-within.ensures
    (c.in_ok-take.ensures.answered c.args.limits.lines l.invariant.0.input _ l.invariant.0.answered) c.in_ok-take.ensures.none_wait c.in_ok-take.ensures.flushed (sym c.early_end-in-loop-count.ensures ∙ c.in-Some-early_end.is) (c.in_ok-take.ensures.kept ∙ l.invariant.1))

pub returns-then-within-count : goal.returns-then-within-count
returns-then-within-count g c =
    let l = c.loop-count in
    let e = c.in_ok-count.ensures in
    let s1 = source_view g.R.Source l.reader in
    let s2 = source_view g.R.Source c.read.new.self in
    let k2 = sink_view g.W.Sink c.take.new.writer in
    let more : ReadMore s1 s2 c.in_ok-count.count c.read.new.piece = record { bytes = e.bytes.0; fits = e.within; ended = e.ended; well = e.well } in
    past c.args.limits.lines c.args.limits.bytes l.room c.in_ok-count.count c.bytes_within-within.result _ s1 s2 _ _ k2 _ _ l.dialogue c.take.new.self c.read.new.piece l.invariant.0 more c.if-count-eq0.false c.bytes_within-within.ensures c.if-within-count.true
    (c.in_ok-take.ensures.answered c.args.limits.lines l.invariant.0.input _ l.invariant.0.answered) c.in_ok-take.ensures.none_wait c.in_ok-take.ensures.flushed (sym c.early_end-in-loop-count.ensures ∙ c.in_default-early_end.is) (c.in_ok-take.ensures.kept ∙ l.invariant.1)

pub loop-count-preserved : goal.loop-count-preserved
loop-count-preserved g c =
    let l = c.loop-count in
    let e = c.in_ok-count.ensures in
    let s1 = source_view g.R.Source l.reader in
    let s2 = source_view g.R.Source c.read.new.self in
    let k2 = sink_view g.W.Sink c.take.new.writer in
    let more : ReadMore s1 s2 c.in_ok-count.count c.read.new.piece = record { bytes = e.bytes.0; fits = e.within; ended = e.ended; well = e.well } in (
      read_on c.args.limits.lines c.args.limits.bytes l.room _ c.in_ok-count.count c.bytes_within-within.result _ s1 s2 _ _ k2 l.dialogue c.take.new.self c.read.new.piece l.invariant.0 more c.bytes_within-within.ensures c.if-within-count.false refl
          (c.in_ok-take.ensures.answered c.args.limits.lines l.invariant.0.input _ l.invariant.0.answered) (sym c.early_end-in-loop-count.ensures ∙ c.in_default-early_end.is) c.in_ok-take.ensures.none_wait,
      c.in_ok-take.ensures.kept ∙ l.invariant.1,
    )

-- the end of the input: the plan line was refused
pub returns-in-Some : goal.returns-in-Some
returns-in-Some g c =
    let l = c.loop-count in
    let e = c.in_ok-count.ensures in
    let s1 = source_view g.R.Source l.reader in
    let s2 = source_view g.R.Source c.read.new.self in
    let k2 = sink_view g.W.Sink c.finish.new.writer in
    let more : ReadMore s1 s2 c.in_ok-count.count c.read.new.piece = record { bytes = e.bytes.0; fits = e.within; ended = e.ended; well = e.well } in
    rw (c.fault.ensures)
    (refused_at_end c.args.limits.lines c.args.limits.bytes l.room c.in_ok-count.count _ s1 s2 _ _ k2 _ _ l.dialogue c.finish.new.self c.read.new.piece c.in-Some.end l.invariant.0 more c.if-count-eq0.true
    (c.in_ok-finish.ensures.answered c.args.limits.lines l.invariant.0.input _ l.invariant.0.answered) c.in_ok-finish.ensures.none_wait c.in_ok-finish.ensures.flushed (sym c.early_end.ensures ∙ c.in-Some.is) (c.in_ok-finish.ensures.kept ∙ l.invariant.1))

-- the end of the input: the plan line was accepted
pub returns-then-count-eq0 : goal.returns-then-count-eq0
returns-then-count-eq0 g c =
    let l = c.loop-count in
    let e = c.in_ok-count.ensures in
    let s1 = source_view g.R.Source l.reader in
    let s2 = source_view g.R.Source c.read.new.self in
    let k2 = sink_view g.W.Sink c.finish.new.writer in
    let more : ReadMore s1 s2 c.in_ok-count.count c.read.new.piece = record { bytes = e.bytes.0; fits = e.within; ended = e.ended; well = e.well } in
    let some : 0 < length c.read.new.piece = omega arith in
    ended_well c.args.limits.lines c.args.limits.bytes l.room c.in_ok-count.count _ s1 s2 _ _ k2 _ _ l.dialogue c.finish.new.self c.read.new.piece _ l.invariant.0 more c.if-count-eq0.true (e.bytes.1 c.if-count-eq0.true some)
    (c.in_ok-finish.ensures.answered c.args.limits.lines l.invariant.0.input _ l.invariant.0.answered) c.in_ok-finish.ensures.none_wait c.in_ok-finish.ensures.flushed (sym c.early_end.ensures ∙ c.in_default.is) (c.saturating_sub.ensures ∙ ap (λ (left : ℕ). c.args.limits.lines - left) c.lines_left.ensures) (c.in_ok-finish.ensures.kept ∙ l.invariant.1)
