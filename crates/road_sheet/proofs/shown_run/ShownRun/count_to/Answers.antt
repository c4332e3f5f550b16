-- Each step is added to the counts, which start at zero.
use Rattle.std.proofs.Common.{◌≡◌, ◌<◌, ◌≤◌, ◌+◌, ◌∙◌, length, ap, sym, arith}
use Rattle.std.specs.List.{slice_index_or}
use Rattle.road_plan.specs.Plan.{Plan}
use Rattle.road_detector.specs.Passes.{no_totals, passes}
use Rattle.road_scenario.specs.Settings.{settings_of}
use Rattle.road_columns.specs.UnderWay.{UnderWay}
use Rattle.road_sheet.specs.Sheets.{state_of, total_of}
use Rattle.road_sheet.proofs.RunTotals.{counted_more, none_yet}
use Rattle.road_sheet.proofs.ShownRuns.{length-zero_counts, zero_counts-at}
use Rattle.road_sheet.proofs.shown_run.ShownRun.count_to.Goals as goal

pub loop-counted-init : goal.loop-counted-init
loop-counted-init c =
    let s = c.args.sheet.now in
    let run = c.args.self.now.run in
    let d = c.args.detector in
    let shown = c.requires.shown in
    let anew = c.restart_counts.ensures in
    let step = ap (λ (r : UnderWay). r.step) anew in
    let many = ap (λ (p : Plan). length p.detectors) shown.plan in
    let below : d < length run.plan.detectors = omega (arith, many, c.requires.in_plan) in
    record {
      step = sym c.next_step-counted.ensures;
      each = ap (λ (r : UnderWay). length r.totals) anew ∙ length-zero_counts run.plan ∙ many;
      counted = ap (λ (r : UnderWay). slice_index_or r.totals d no_totals) anew ∙ zero_counts-at run.plan d below
          ∙ none_yet s.plan (settings_of s.plan s.edits) d run.step ∙ sym (ap (total_of s d run.step) (c.next_step-counted.ensures ∙ step));
      shown = record {
        plan = ap (λ (r : UnderWay). r.plan) anew ∙ shown.plan;
        begin = ap (λ (r : UnderWay). r.lo) anew ∙ shown.begin;
        end = ap (λ (r : UnderWay). r.hi) anew ∙ shown.end;
        road = ap (λ (r : UnderWay). r.road) anew ∙ shown.road ∙ sym (ap (state_of s) step);
        under = ap (λ (r : UnderWay). r.settings) anew ∙ shown.under;
        cached = shown.cached;
      };
    }

pub loop-counted-preserved : goal.loop-counted-preserved
loop-counted-preserved c =
    let s = c.args.sheet.now in
    let course = settings_of s.plan s.edits in
    let d = c.args.detector in
    let run = c.loop-counted.self.run in
    let invariant = c.loop-counted.invariant in
    let first : c.next_step-counted.result ≡ c.args.self.now.run.step = c.next_step-counted.ensures ∙ ap (λ (r : UnderWay). r.step) c.restart_counts.ensures in
    let before : c.args.self.now.run.step ≤ c.loop-counted.counted = omega (arith, first, c.loop-counted.auto.counted) in
    let below : d < length run.totals = omega (arith, invariant.each, c.requires.in_plan) in
    record {
      step = c.in_ok-step_on.ensures.step ∙ ap (λ n. n + 1) invariant.step;
      each = c.in_ok-step_on.ensures.each ∙ invariant.each;
      counted = c.in_ok-step_on.ensures.counted d below
          ∙ counted_more s.plan course d c.args.self.now.run.step c.loop-counted.counted (slice_index_or run.totals d no_totals) (passes s.plan course d run.step) before invariant.counted (ap (passes s.plan course d) invariant.step);
      shown = c.in_ok-step_on.ensures.shown;
    }
