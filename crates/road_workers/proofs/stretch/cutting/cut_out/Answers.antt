-- On the stretch, the road and the counts are those after the span.
use Rattle.std.proofs.Common.{◌-◌, length, ap, subst, sym, if◌then◌else◌, ◌∙◌, arith}
use Rattle.std.specs.List.{slice_index_or}
use Rattle.road_ends.specs.Laws.{AgreeBetween}
use Rattle.road_ends.specs.Span.{span_road}
use Rattle.road_detector.specs.Passes.{no_totals}
use Rattle.road_workers.specs.Private.Stretches.{has_site}
use Rattle.road_workers.proofs.NearSteps.{at_end}
use Rattle.road_workers.proofs.StretchCars.{same_cars}
use Rattle.road_workers.proofs.stretch.cutting.cut_out.Goals as goal

pub returns : goal.returns
returns c =
    let span = c.args.span.now in
    let first = c.args.stretch.first in
    let end = c.args.stretch.end in
    let after = c.requires.after in
    let counted = c.in_ok-totals.ensures in
    let plan_is = c.deref.ensures ∙ c.plan.ensures.plan in
    record {
      cars = same_cars first end c.in_ok-road.road (span_road span c.args.near.now) c.requires.order
          (subst (λ r. AgreeBetween first end r (span_road span c.args.near.now)) (sym c.in_ok-road.ensures)
          (at_end (span.steps - span.steps) first end c.args.run.now.road (span_road span c.args.near.now) (omega arith) after.road));
      totals = record {
        each = c.forget_outside.ensures.each ∙ ap length counted ∙ after.each;
        counted = λ d below.
            let each = c.forget_outside.ensures.each in
            let many = ap length counted in
            c.forget_outside.ensures.totals d (omega arith)
            ∙ (λ i. if has_site first end (plan_is i) d then slice_index_or (counted i) d no_totals else no_totals)
            ∙ after.counted d (omega arith);
      };
    }
