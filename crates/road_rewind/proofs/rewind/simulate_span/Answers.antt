-- The crew runs the span, and the span's steps are counted.
use Rattle.std.proofs.Common.{◌+◌, ◌-◌, ◌^◌, ◌∙◌, ℕ, min, ap, arith, subst, sym}
use Rattle.std.proofs.lemmas.Bool.{false≢true}
use Rattle.std.specs.Prelude.{is_some}
use Rattle.road_ends.specs.Laws.{StayOnRoad}
use Rattle.road_ends.specs.Span.{span_road}
use Rattle.road_sheet.specs.Sheets.{Sheet, state_of}
use Rattle.road_sheet.proofs.Spans.{road_after}
use Rattle.road_workers.specs.Crews.{CanBeRun}
use Rattle.road_rewind.proofs.NextSpans.{next_can_be_run}
use Rattle.road_rewind.proofs.StepCounts.{ticks_at_once}
use Rattle.road_rewind.proofs.rewind.simulate_span.Goals as goal

pub unreachable-requires : goal.unreachable-requires
unreachable-requires g c =
    let stay = subst StayOnRoad (c.deref.ensures ∙ c.plan.ensures.plan) c.cars_stay_on_road.ensures in
    let can = next_can_be_run c.args.draft.now c.args.span.now c.requires.next c.plan.ensures.within c.steps-steps.ensures.within_limit stay in
    false≢true (ap is_some (sym c.in_default.is) ∙ c.in_ok-ran.ensures.some (subst (CanBeRun c.args.span.now) (sym c.requires.road) can))

pub returns-clause-steps : goal.returns-clause-steps
returns-clause-steps g c =
    ticks_at_once c.args.meter.now c.args.span.now.steps c.count.new.self c.requires.next.some (c.count.ensures ∙ ap (λ (n : ℕ). min (c.args.meter.now + n) (2 ^ 64 - 1)) c.steps-steps.ensures.steps)

pub returns-clause-road : goal.returns-clause-road
returns-clause-road g c =
    let ran = rw c.in-Some.is at c.in_ok-ran.ensures.road in
    ran ∙ ap (span_road c.args.span.now) c.requires.road ∙ road_after c.args.draft.now c.args.span.now c.requires.next ∙ sym (ap (λ (s : Sheet). state_of s s.horizon) c.in_ok-push_span.ensures.grown)
