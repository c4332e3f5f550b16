-- A sheet whose run no edit touches is also a sheet of the joined scenario.
use Rattle.std.proofs.Common.{◌∙◌, ap, arith}
use Rattle.std.proofs.lemmas.List.{take_all}
use Rattle.std.specs.Arc.{arc_value}
use Rattle.road_sheet.specs.Sheets.{Sheet}
use Rattle.road_sheet.proofs.SheetIntervals.{many_whole, stays_whole}
use Rattle.road_sheet.proofs.sheet.Sheet.resume_at_horizon.Goals as goal

pub invariant_of-result : goal.invariant_of-result
invariant_of-result c =
    let now = c.args.self.now in
    stays_whole _ now c.args.scenario (arc_value c.in_ok-plan.plan) _ _ _ _ c.in_ok-open_interval.open_interval _ c.in_ok-open_interval.at_horizon c.self.invariant c.self.view_is c.requires.winners c.requires.fits c.requires.same
    (c.in_ok-plan.ensures.plan ∙ ap (λ (x : Sheet). x.plan) c.self.view_is)
    c.horizon.ensures.horizon
    (c.in_ok-plan.ensures.intervals ∙ take_all c.whole_intervals.result c.self.inside.intervals (omega (arith, c.whole_intervals.ensures, many_whole _ _ _ _ _ c.self.invariant c.self.view_is)))
    c.in_ok-open_interval.ensures.start
    c.in_ok-open_interval.ensures.totals
    c.in_ok-open_interval.ensures.road

pub share_with_plan-requires : goal.share_with_plan-requires
share_with_plan-requires c = omega (arith, c.whole_intervals.ensures, many_whole _ _ _ _ _ c.self.invariant c.self.view_is)
