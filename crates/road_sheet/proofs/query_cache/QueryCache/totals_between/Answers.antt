-- The counts of the intervals add up to those of all steps.
use Rattle.std.proofs.Common.{◌∙◌, ◌≤◌, subst, arith}
use Rattle.road_scenario.specs.Settings.{settings_of}
use Rattle.road_detector.specs.Laws.{BoundTotals}
use Rattle.road_sheet.proofs.RunTotals.{totals_in_parts, cars_in_parts, speeds_in_parts}
use Rattle.road_sheet.proofs.query_cache.QueryCache.totals_between.Goals as goal

pub plus-totals-requires-clause-cars : goal.plus-totals-requires-clause-cars
plus-totals-requires-clause-cars c =
    let s = c.args.sheet.now in
    cars_in_parts s.plan (settings_of s.plan s.edits) c.args.detector c.args.from c.loop-begin.begin c.min-end.result c.loop-begin.totals c.in_ok-counted.counted
    (subst BoundTotals (c.deref.ensures ∙ c.plan.ensures) c.totals_are_bounded.ensures) c.loop-begin.invariant.after (omega (arith, c.min-end.ensures, c.loop-begin-test.true)) (omega (arith, c.min-end.ensures, c.requires.horizon)) c.loop-begin.invariant.totals c.in_ok-counted.ensures.totals

pub plus-totals-requires-clause-speeds : goal.plus-totals-requires-clause-speeds
plus-totals-requires-clause-speeds c =
    let s = c.args.sheet.now in
    speeds_in_parts s.plan (settings_of s.plan s.edits) c.args.detector c.args.from c.loop-begin.begin c.min-end.result c.loop-begin.totals c.in_ok-counted.counted
    (subst BoundTotals (c.deref.ensures ∙ c.plan.ensures) c.totals_are_bounded.ensures) c.loop-begin.invariant.after (omega (arith, c.min-end.ensures, c.loop-begin-test.true)) (omega (arith, c.min-end.ensures, c.requires.horizon)) c.loop-begin.invariant.totals c.in_ok-counted.ensures.totals

pub loop-begin-preserved : goal.loop-begin-preserved
loop-begin-preserved c =
    let s = c.args.sheet.now in
    let on : c.loop-begin.begin ≤ c.min-end.result = omega (arith, c.min-end.ensures, c.loop-begin-test.true) in
    record {
      after = omega (arith, c.loop-begin.invariant.after, on);
      before = omega (arith, c.min-end.ensures);
      checkpoint = λ start more. omega (arith, c.loop-begin.invariant.checkpoint start c.loop-begin-test.true, more, c.min-end.ensures);
      totals = c.plus-totals.ensures
          ∙ totals_in_parts s.plan (settings_of s.plan s.edits) c.args.detector c.args.from c.loop-begin.begin c.min-end.result c.loop-begin.totals c.in_ok-counted.counted c.loop-begin.invariant.after on c.loop-begin.invariant.totals c.in_ok-counted.ensures.totals;
      cached = c.in_ok-counted.ensures.cached;
    }
