-- Each turn makes and counts one more step, so all are made and counted at the end.
use Rattle.std.proofs.Common.{◌≡◌, ◌+◌, ◌^◌, ◌<◌, ◌∙◌, ap, arith, rules, subst, sym}
use Rattle.std.specs.List.{slice_index_or}
use Rattle.road_ends.specs.Input.{input_next, input_speeds}
use Rattle.road_detector.specs.Passes.{no_totals, plus}
use Rattle.road_detector.specs.declared.counts.Totals.{Totals}
use Rattle.road_columns.specs.RoadOrRun.{road_now}
use Rattle.road_workers.proofs.StepByStep.{count_of, counts_fit, one_more_counted, road_more, same_count, span_counted}
use Rattle.road_workers.proofs.crew.Crew.run.Goals as goal

pub count_passes-requires-clause-cars : goal.count_passes-requires-clause-cars
count_passes-requires-clause-cars g c = λ d below.
    let span = c.args.span.now in
    let loop = c.loop-made in
    let early : loop.made < span.steps = let is = c.loop-made-test.true in let steps = c.steps-made-end.ensures.steps in grind (arith, rules) in
    let by_rules = c.deref-in-loop-made-2.ensures.value ∙ c.in_ok-speeds.ensures.speeds ∙ ap input_speeds (sym c.deref-in-loop-made.ensures) in
    let same = same_count span loop.made loop.before c.deref-in-loop-made.result.now c.deref-in-loop-made-2.result.now d (c.deref-in-loop-made.ensures ∙ c.in_ok-input.ensures) by_rules in
    subst (λ (more : Totals). (slice_index_or loop.totals.items d no_totals).cars + more.cars < 2 ^ 32) (sym same)
    (counts_fit span loop.made (road_now c.args.road) loop.before loop.totals.items loop.invariant.road loop.invariant.counted early c.steps-made-end.ensures.within_limit d below).0

pub count_passes-requires-clause-speeds : goal.count_passes-requires-clause-speeds
count_passes-requires-clause-speeds g c = λ d below.
    let span = c.args.span.now in
    let loop = c.loop-made in
    let early : loop.made < span.steps = let is = c.loop-made-test.true in let steps = c.steps-made-end.ensures.steps in grind (arith, rules) in
    let by_rules = c.deref-in-loop-made-2.ensures.value ∙ c.in_ok-speeds.ensures.speeds ∙ ap input_speeds (sym c.deref-in-loop-made.ensures) in
    let same = same_count span loop.made loop.before c.deref-in-loop-made.result.now c.deref-in-loop-made-2.result.now d (c.deref-in-loop-made.ensures ∙ c.in_ok-input.ensures) by_rules in
    subst (λ (more : Totals). (slice_index_or loop.totals.items d no_totals).speeds + more.speeds < 2 ^ 32) (sym same)
    (counts_fit span loop.made (road_now c.args.road) loop.before loop.totals.items loop.invariant.road loop.invariant.counted early c.steps-made-end.ensures.within_limit d below).1

pub loop-made-preserved : goal.loop-made-preserved
loop-made-preserved g c =
    let span = c.args.span.now in
    let loop = c.loop-made in
    let was = loop.invariant in
    let by_rules = c.deref-in-loop-made-2.ensures.value ∙ c.in_ok-speeds.ensures.speeds ∙ ap input_speeds (sym c.deref-in-loop-made.ensures) in
    let counts = c.count_passes.ensures in
    record {
      road = road_more span loop.made (road_now c.args.road) loop.before _ was.road (c.in_ok-before-2.ensures.step ∙ ap input_next (c.deref-in-loop-made-3.ensures ∙ c.in_ok-input.ensures));
      each = counts.each ∙ was.each;
      counted = one_more_counted span loop.made (road_now c.args.road) loop.before loop.totals.items c.count_passes.new.totals.items was.road was.counted counts.each
          (λ d below. counts.totals d below ∙ ap (plus (slice_index_or loop.totals.items d no_totals))
          (same_count span loop.made loop.before c.deref-in-loop-made.result.now c.deref-in-loop-made-2.result.now d (c.deref-in-loop-made.ensures ∙ c.in_ok-input.ensures) by_rules));
      gone = c.in_ok-speeds.ensures.gone ∙ was.gone;
    }

pub returns-clause-totals : goal.returns-clause-totals
returns-clause-totals g c =
    let span = c.args.span.now in
    let was = c.loop-made.invariant in
    let all : c.loop-made.made ≡ span.steps = let over = c.loop-made-test.false in let steps = c.steps-made-end.ensures.steps in let end = c.loop-made.auto in grind (arith, rules) in
    span_counted span (road_now c.args.road) c.loop-made.totals.items was.each
    (λ d below. was.counted d below ∙ ap (λ k. count_of span k (road_now c.args.road) d) all)
