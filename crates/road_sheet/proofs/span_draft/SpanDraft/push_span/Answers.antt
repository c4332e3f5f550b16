-- The outcome of a span is the run's road at its end, and the run's counts in it.
use Rattle.std.proofs.Common.{◌∙◌, ap, arith, sym}
use Rattle.road_columns.specs.RoadOrRun.{road_now}
use Rattle.road_sheet.specs.Sheets.{Sheet}
use Rattle.road_sheet.proofs.Spans.{road_to, totals_to}
use Rattle.road_sheet.proofs.span_draft.SpanDraft.push_span.Goals as goal

pub add_within-requires-clause-totals : goal.add_within-requires-clause-totals
add_within-requires-clause-totals c =
    let at = ap (λ (x : Sheet). x.horizon) c.self.view_is in
    totals_to c.args.self.now c.args.span.now _ _ c.requires.next (omega (arith, at, c.steps.ensures.steps)) (c.deref.ensures.value ∙ c.requires.totals)

pub end_interval-requires-clause-totals : goal.end_interval-requires-clause-totals
end_interval-requires-clause-totals c =
    let at = ap (λ (x : Sheet). x.horizon) c.self.view_is in
    totals_to c.args.self.now c.args.span.now _ _ c.requires.next (omega (arith, at, c.steps.ensures.steps)) (c.deref-in-Road.ensures.value ∙ c.requires.totals)

pub end_interval-requires-clause-road : goal.end_interval-requires-clause-road
end_interval-requires-clause-road c =
    let at = ap (λ (x : Sheet). x.horizon) c.self.view_is in
    sym (ap road_now c.in-Road.is) ∙ c.requires.road ∙ road_to c.args.self.now c.args.span.now _ c.requires.next (omega (arith, at, c.steps.ensures.steps))

pub end_interval-requires-in-Run-clause-totals : goal.end_interval-requires-in-Run-clause-totals
end_interval-requires-in-Run-clause-totals c =
    let at = ap (λ (x : Sheet). x.horizon) c.self.view_is in
    totals_to c.args.self.now c.args.span.now _ _ c.requires.next (omega (arith, at, c.steps.ensures.steps)) (c.deref-in-Run.ensures.value ∙ c.requires.totals)

pub end_interval-requires-in-Run-clause-road : goal.end_interval-requires-in-Run-clause-road
end_interval-requires-in-Run-clause-road c =
    let at = ap (λ (x : Sheet). x.horizon) c.self.view_is in
    c.in_ok-road-in-Run.ensures ∙ sym (ap road_now c.in-Run.is) ∙ c.requires.road ∙ road_to c.args.self.now c.args.span.now _ c.requires.next (omega (arith, at, c.steps.ensures.steps))
