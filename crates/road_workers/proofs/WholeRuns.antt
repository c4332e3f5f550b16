-- A run on the whole road makes the steps of a span.
use Rattle.std.specs.Prelude.{◌≡◌, ℕ, zero, suc, ◌+◌, ◌<◌, length, refl, IfSome}
use Rattle.std.specs.declared.option.Option.{Option}
use Rattle.std.specs.declared.option.Option.TheVariants.{Some}
use Rattle.std.proofs.Common.{ap, ◌∙◌, arith, subst, sym}
use Rattle.std.proofs.Math.Numerals.{add-one}
use Rattle.std.proofs.lemmas.List.FromFn.{fill_by_all, get_or-map-range_with_len, length-map-range_with_len}
use Rattle.road_plan.specs.Plan.{Plan}
use Rattle.road_cells.specs.Array.{Array}
use Rattle.road_ends.specs.Input.{input_next, input_speeds}
use Rattle.road_ends.specs.Span.{Span}
use Rattle.road_ends.proofs.EntriesBetween.{whole-input}
use Rattle.road_detector.specs.Passes.{no_totals, passes_at, plus, span_totals, total_from}
use Rattle.road_detector.proofs.TotalsFrom.{total_from_more}
use Rattle.road_columns.specs.UnderWay.{UnderWay, next_input, run_after_step, total_after}
use Rattle.road_workers.specs.Private.RunsUnderWay.{IsReady, IsWhole, after_steps, uncounted}
use Rattle.road_workers.specs.Private.Stretches.{road_after}
use Rattle.road_workers.proofs.StretchTotals.{step_input}

-- before the first step
whole_ready : (span : Span) (a : Array) (run : UnderWay) → IsReady 0 span.plan.cells span a run → IsWhole span 0 a (uncounted run)
whole_ready span a run is =
    let long = length-map-range_with_len (λ d. no_totals) 0 (length run.plan.detectors) in
    record {
      plan = is.plan;
      settings = is.settings;
      step = let step = is.step in omega arith;
      from = is.from;
      to = is.to;
      road = is.road;
      each = long ∙ ap (λ (p : Plan). length p.detectors) is.plan;
      counted = λ d below. get_or-map-range_with_len (λ d. no_totals) 0 (length run.plan.detectors) d d no_totals (omega arith) (omega arith);
    }

-- the next input of the run is that of the step
whole_input : (span : Span) (k : ℕ) (a : Array) (run : UnderWay) → IsWhole span k a run → next_input run ≡ step_input span k a
whole_input span k a run is =
    ap next_input (λ i. record { plan = is.plan i; settings = is.settings i; step = is.step i; lo = is.from i; hi = is.to i; road = is.road i; totals = run.totals })
    ∙ whole-input span.plan span.plan span.settings (span.step + k) (road_after span k a) 0 span.plan.cells refl refl refl

-- after one more step
whole_more : (span : Span) (k : ℕ) (a : Array) (run : UnderWay) → IsWhole span k a run → IsWhole span (suc k) a (run_after_step run)
whole_more span k a run is =
    let input = whole_input span k a run is in
    let long = length-map-range_with_len (total_after run) 0 (length run.totals) in
    record {
      plan = is.plan;
      settings = is.settings;
      step = let step = is.step in omega arith;
      from = is.from;
      to = let to = is.to in let cells = ap (λ (p : Plan). p.cells) is.plan in omega arith;
      road = ap input_next input;
      each = long ∙ is.each;
      counted = λ d below.
          let early : d < length run.totals = omega arith in
          get_or-map-range_with_len (total_after run) 0 (length run.totals) d d no_totals early (omega arith)
          ∙ (λ i. plus (is.counted d early i) (passes_at (input i) (input_speeds (input i)) d))
          ∙ total_from_more span.plan (λ _. span.settings) span.step k a d
          ∙ ap (λ n. total_from span.plan (λ _. span.settings) span.step n a d) (add-one k);
    }

-- after k steps
whole_after : (span : Span) (k : ℕ) (a : Array) (run : UnderWay) → IsWhole span 0 a run → IsWhole span k a (after_steps k run)
whole_after span zero a run is = is
whole_after span (suc k) a run is = whole_more span k a (after_steps k run) (whole_after span k a run is)

-- a run that is ready, after the steps of the span
pub whole_run : (span : Span) (a : Array) (ready : Option UnderWay) (run later : UnderWay) → IfSome ready (IsReady 0 span.plan.cells span a) → ready ≡ Some run → later ≡ after_steps span.steps (uncounted run) → IsWhole span span.steps a later
whole_run span a ready run later is here made =
    let begun = subst (λ (o : Option UnderWay). IfSome o (IsReady 0 span.plan.cells span a)) here is in
    subst (IsWhole span span.steps a) (sym made) (whole_after span span.steps a (uncounted run) (whole_ready span a run begun))

-- after all steps the totals of the run are those of the span
pub all_counted : (span : Span) (a : Array) (run : UnderWay) → IsWhole span span.steps a run → run.totals ≡ span_totals span a
all_counted span a run is =
    fill_by_all (total_from span.plan (λ _. span.settings) span.step span.steps a) run.totals (length span.plan.detectors) no_totals is.each
    (λ d below. is.counted d (let each = is.each in omega arith))
