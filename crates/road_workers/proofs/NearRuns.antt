-- A run on a stretch with its margins makes the steps of a span there.
use Rattle.std.specs.Prelude.{◌≡◌, ℕ, zero, suc, ◌+◌, ◌-◌, ◌*◌, ◌<◌, ◌≤◌, Bool, true, false, if◌then◌else◌, length, min, slice_index_or, refl}
use Rattle.std.proofs.Common.{sym, ap, subst, ◌∙◌, arith}
use Rattle.std.proofs.Math.Numerals.{add-one}
use Rattle.std.proofs.lemmas.List.FromFn.{get_or-map-range_with_len, length-map-range_with_len}
use Rattle.road_plan.specs.Plan.{Plan}
use Rattle.road_cells.specs.Array.{Array}
use Rattle.road_cells.specs.declared.car.TheConstants.{GREATEST_SPEED}
use Rattle.road_ends.specs.Input.{input_next, input_speeds}
use Rattle.road_ends.specs.Laws.{AgreeNear}
use Rattle.road_ends.specs.Span.{Span}
use Rattle.road_detector.specs.Passes.{no_totals, passes_at, plus}
use Rattle.road_detector.specs.declared.counts.Totals.{Totals}
use Rattle.road_columns.specs.UnderWay.{UnderWay, next_input, run_after_step, total_after}
use Rattle.road_columns.proofs.NearRuns.{near_run}
use Rattle.road_workers.specs.Private.RunsUnderWay.{IsAfter, IsReady, after_steps, uncounted}
use Rattle.road_workers.specs.Private.Stretches.{has_site, road_after, total_on}
use Rattle.road_workers.proofs.NearSteps.{agrees_with_itself, counts-near, step-near}
use Rattle.road_workers.proofs.StretchTotals.{none_on, total_on-more}

same_or_none : (b : Bool) (x : Totals) → x ≡ no_totals → (if b then x else no_totals) ≡ no_totals
same_or_none true x is = is
same_or_none false x is = refl

both_or_none : (b : Bool) (x y : Totals) → (if b then plus x y else no_totals) ≡ plus (if b then x else no_totals) (if b then y else no_totals)
both_or_none true x y = refl
both_or_none false x y = refl

-- before the first step
pub near_ready : (lo hi : ℕ) (span : Span) (a : Array) (run : UnderWay)
    → IsReady (lo - GREATEST_SPEED * span.steps) (min (hi + GREATEST_SPEED * span.steps) span.plan.cells) span a run → IsAfter lo hi span 0 a (uncounted run)
near_ready lo hi span a run is =
    let long = length-map-range_with_len (λ d. no_totals) 0 (length run.plan.detectors) in
    let from = is.from in
    let to = is.to in
    record {
      plan = is.plan;
      settings = is.settings;
      step = let step = is.step in omega arith;
      from = omega arith;
      to = omega arith;
      on_road = omega arith;
      road = subst (λ x. AgreeNear (span.steps - 0) lo hi x a) (sym is.road) (agrees_with_itself (span.steps - 0) lo hi a);
      each = long ∙ ap (λ (p : Plan). length p.detectors) is.plan;
      counted = λ d below.
          same_or_none (has_site lo hi span.plan d) _ (get_or-map-range_with_len (λ d. no_totals) 0 (length run.plan.detectors) d d no_totals (omega arith) (omega arith))
          ∙ sym (none_on lo hi span a d);
    }

-- after one more step
near_more : (lo hi : ℕ) (span : Span) (k : ℕ) (a : Array) (run : UnderWay) → k < span.steps → IsAfter lo hi span k a run → IsAfter lo hi span (suc k) a (run_after_step run)
near_more lo hi span k a run more is =
    let near = near_run span k lo hi run is.plan is.settings is.step is.from is.to is.on_road in
    let long = length-map-range_with_len (total_after run) 0 (length run.totals) in
    let from = is.from in
    let to = is.to in
    let on_road = is.on_road in
    let cells = ap (λ (p : Plan). p.cells) is.plan in
    record {
      plan = is.plan;
      settings = is.settings;
      step = let step = is.step in omega arith;
      from = omega arith;
      to = omega arith;
      on_road = omega arith;
      road = subst (λ n. AgreeNear (span.steps - n) lo hi (input_next (next_input run)) (road_after span n a)) (add-one k)
          (step-near lo hi span k run.road a (next_input run) more near is.road (input_next (next_input run)) refl);
      each = long ∙ is.each;
      counted = λ d below.
          let early : d < length run.totals = omega arith in
          ap (λ x. if has_site lo hi span.plan d then x else no_totals) (get_or-map-range_with_len (total_after run) 0 (length run.totals) d d no_totals early (omega arith))
          ∙ both_or_none (has_site lo hi span.plan d) (slice_index_or run.totals d no_totals) (passes_at (next_input run) (input_speeds (next_input run)) d)
          ∙ (λ i. plus (is.counted d early i) (if has_site lo hi (sym is.plan i) d then passes_at (next_input run) (input_speeds (next_input run)) d else no_totals))
          ∙ ap (plus (total_on lo hi span k a d)) (counts-near lo hi span k run.road a (next_input run) more near is.road d)
          ∙ total_on-more lo hi span k a d
          ∙ ap (λ n. total_on lo hi span n a d) (add-one k);
    }

-- several steps
pub near_after : (lo hi : ℕ) (span : Span) (k : ℕ) (a : Array) (run : UnderWay) → k ≤ span.steps → IsAfter lo hi span 0 a run → IsAfter lo hi span k a (after_steps k run)
near_after lo hi span zero a run most is = is
near_after lo hi span (suc k) a run most is = near_more lo hi span k a (after_steps k run) (omega arith) (near_after lo hi span k a run (omega arith) is)
