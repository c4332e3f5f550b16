-- The steps of a span are counted after those before it.
use Rattle.std.proofs.Common.{◌≡◌, ◌+◌, ◌-◌, ◌∙◌, ℕ, ap, sym, arith}
use Rattle.road_sheet.specs.Sheets.{Sheet}
use Rattle.road_sheet.specs.Spans.{sheet_after_span}
use Rattle.road_rewind.specs.Growth.{meter_after}
use Rattle.road_rewind.proofs.StepCounts.{more_ticks_after}
use Rattle.road_rewind.proofs.rewind.simulate.Goals as goal

pub loop-step-preserved : goal.loop-step-preserved
loop-step-preserved g c =
    let start = c.args.draft in
    let step = c.loop-step.step in
    let span = c.in_ok-span.span in
    let invariant = c.loop-step.invariant in
    let here : c.loop-step.so_far.horizon ≡ step = ap (λ (x : Sheet). x.horizon) invariant.draft in
    let steps = c.steps.ensures.steps in
    let count : step - start.horizon + span.steps ≡ step + c.steps.result - start.horizon = omega (arith, invariant.after, steps) in
    record {
      after = omega (arith, invariant.after);
      before = omega (arith, c.in_ok-span.ensures.before, here, steps, c.min-end.ensures);
      draft = c.in_ok-road.ensures.simulated ∙ ap (λ (x : Sheet). sheet_after_span span x) (c.in_ok-span.ensures.unchanged ∙ invariant.draft)
          ∙ ap (λ (n : ℕ). let later : Sheet = record { plan = start.plan; edits = start.edits; horizon = step + n } in later) (sym steps);
      road = c.in_ok-road.ensures.road;
      meter = c.in_ok-road.ensures.steps ∙ ap (λ (m : ℕ). meter_after m span.steps) invariant.meter
          ∙ more_ticks_after c.args.meter.now (step - start.horizon) span.steps ∙ ap (meter_after c.args.meter.now) count;
      gone = c.in_ok-road.ensures.gone ∙ invariant.gone;
    }

pub returns-in_err-road-clause-few : goal.returns-in_err-road-clause-few
returns-in_err-road-clause-few g c =
    let invariant = c.loop-step.invariant in record {
      ticks = c.loop-step.step - c.args.draft.horizon;
      few = omega (arith, invariant.after, invariant.before);
      counted = c.in_err-road.ensures.none ∙ invariant.meter;
    }
