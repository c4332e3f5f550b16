-- The bytes up to the end of a line are taken: answered, held, or passed over if the dialogue is over.
use Rattle.std.proofs.Common.{◌≡◌, ◌++◌, true, false, IsSome, is_some, Some, take, refl, sym, ap}
use Rattle.std.proofs.lemmas.Result.{err_from_is_err_and}
use Rattle.road_serve.specs.Dialogue.{Dialogue}
use Rattle.road_serve.specs.StreamViews.{sink_view}
use Rattle.road_serve.specs.declared.faults.EarlyEnd.TheVariants.{TooMany}
use Rattle.road_serve.proofs.CutBytes.{newline_found, no_newline}
use Rattle.road_serve.proofs.Options.{not_some}
use Rattle.road_serve.proofs.DialogueSteps.{over_more, full_more}
use Rattle.road_serve.proofs.DialogueCalls.{answered_same, stops_memory, stops_line, held_line, few_line, all_taken, line_taken}
use Rattle.road_serve.proofs.CrowdLines.{crowd_line}
use Rattle.road_serve.proofs.GoneCounts.{counts_more}
use Rattle.road_serve.proofs.dialogue.Dialogue.take_line.Goals as goal

pub returns-then-is_some-clause-answered : goal.returns-then-is_some-clause-answered
returns-then-is_some-clause-answered g c lines before first h =
    let some : IsSome c.args.self.now.over = cc in
    answered_same lines _ _ first _ c.args.self.now (all_taken before c.args.bytes.now) (over_more lines before c.args.bytes.now first _ c.args.self.now h some)

pub returns-then-is_spent-clause-answered : goal.returns-then-is_spent-clause-answered
returns-then-is_spent-clause-answered g c lines before first h =
    let isnt : is_some c.args.self.now.over ≡ false = cc in
    let spent = c.is_spent.ensures.0 c.if-is_spent.true in
    let seen = c.self.view_is in
    let after : Dialogue = record {
      laboratory = c.self.inside.laboratory;
      line = c.self.inside.line;
      left = c.self.inside.left;
      waiting = c.self.inside.waiting.items;
      over = Some TooMany;
    } in
    answered_same lines _ _ first _ after (all_taken before c.args.bytes.now)
    (full_more lines before c.args.bytes.now first _ c.args.self.now after h (not_some c.args.self.now.over isnt) spent.0 spent.1 c.requires
    refl (ap (λ (d : Dialogue). d.waiting) seen) (ap (λ (d : Dialogue). d.laboratory) seen) (ap (λ (d : Dialogue). d.left) seen))

pub returns-in_err-hold-in-Some-clause-answered : goal.returns-in_err-hold-in-Some-clause-answered
returns-in_err-hold-in-Some-clause-answered g c lines before first h =
    let p = err_from_is_err_and c.from_residual.result c.from_residual.ensures.1 in
    rw (p.1, p.2) (record { stops = stops_memory lines before c.args.bytes.now _ first _ c.args.self.now h; counts = refl })

pub returns-in_err-hold-in-None-clause-answered : goal.returns-in_err-hold-in-None-clause-answered
returns-in_err-hold-in-None-clause-answered g c lines before first h =
    let p = err_from_is_err_and c.from_residual-in_err-hold-in-None.result c.from_residual-in_err-hold-in-None.ensures.1 in
    rw (p.1, p.2) (record { stops = stops_memory lines before c.args.bytes.now _ first _ c.args.self.now h; counts = refl })

pub returns-in_ok-answer-in-Some-clause-answered : goal.returns-in_ok-answer-in-Some-clause-answered
returns-in_ok-answer-in-Some-clause-answered g c lines before first h =
    let isnt : is_some c.args.self.now.over ≡ false = cc in
    let none = not_some c.args.self.now.over isnt in
    let sink = sink_view g.W.Sink c.args.writer.now in
    let ends = newline_found c.args.bytes.now c.in-Some.end (sym c.in-Some.ensures) in
    let piece = take c.in-Some.end c.args.bytes.now in
    let open_ : IsSome c.args.self.now.laboratory → c.args.self.now.left ≡ 0 → ⊥ = λ k l. let spent : c.is_spent.result ≡ true = c.is_spent.ensures.1 (k, l) in cc in
    let held = held_line lines before piece first sink c.args.self.now c.hold.new.self h none open_ ends.line
    c.in_ok-hold-in-Some.ensures.laboratory c.in_ok-hold-in-Some.ensures.left c.in_ok-hold-in-Some.ensures.waiting c.in_ok-hold-in-Some.ensures.over c.in_ok-hold-in-Some.ensures.holds in
    let few = few_line lines before piece first sink c.args.self.now h none open_ ends.line in
    answered_same lines _ _ first _ c.answer.new.self (line_taken before c.args.bytes.now c.in-Some.end ends) (c.in_ok-answer-in-Some.ensures.answered lines (before ++ piece) first held few)

pub returns-in_err-answer-in-Some-clause-answered : goal.returns-in_err-answer-in-Some-clause-answered
returns-in_err-answer-in-Some-clause-answered g c lines before first h =
    let isnt : is_some c.args.self.now.over ≡ false = cc in
    let none = not_some c.args.self.now.over isnt in
    let sink = sink_view g.W.Sink c.args.writer.now in
    let ends = newline_found c.args.bytes.now c.in-Some.end (sym c.in-Some.ensures) in
    let piece = take c.in-Some.end c.args.bytes.now in
    let open_ : IsSome c.args.self.now.laboratory → c.args.self.now.left ≡ 0 → ⊥ = λ k l. let spent : c.is_spent.result ≡ true = c.is_spent.ensures.1 (k, l) in cc in
    let held = held_line lines before piece first sink c.args.self.now c.hold.new.self h none open_ ends.line
    c.in_ok-hold-in-Some.ensures.laboratory c.in_ok-hold-in-Some.ensures.left c.in_ok-hold-in-Some.ensures.waiting c.in_ok-hold-in-Some.ensures.over c.in_ok-hold-in-Some.ensures.holds in
    let few = few_line lines before piece first sink c.args.self.now h none open_ ends.line in
    let p = err_from_is_err_and c.from_residual-in_err-answer-in-Some.result c.from_residual-in_err-answer-in-Some.ensures.1 in
    let line = c.in_err-answer-in-Some.ensures.answered lines (before ++ piece) first held few in
    rw (p.1, p.2) (record {
      stops = stops_line lines before c.args.bytes.now c.in-Some.end first _ _ ends line.stops;
      counts = counts_more _ _ _ _ _ (crowd_line lines before c.args.bytes.now c.in-Some.end ends) line.counts;
    })

pub returns-in_ok-hold-in-None-clause-answered : goal.returns-in_ok-hold-in-None-clause-answered
returns-in_ok-hold-in-None-clause-answered g c lines before first h =
    let isnt : is_some c.args.self.now.over ≡ false = cc in
    let open_ : IsSome c.args.self.now.laboratory → c.args.self.now.left ≡ 0 → ⊥ = λ k l. let spent : c.is_spent.result ≡ true = c.is_spent.ensures.1 (k, l) in cc in
    let e = c.in_ok-hold-in-None.ensures in
    answered_same lines _ _ first _ c.hold-in-None.new.self (all_taken before c.args.bytes.now)
    (held_line lines before c.args.bytes.now first _ c.args.self.now c.hold-in-None.new.self h (not_some c.args.self.now.over isnt) open_ (no_newline c.args.bytes.now (sym c.in-None.ensures))
    e.laboratory e.left e.waiting e.over e.holds)
