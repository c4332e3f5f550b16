-- A sheet that resumes at a checkpoint is a sheet of the joined scenario.
use Rattle.std.proofs.Common.{◌∙◌, ap, sym, length, replicate, arith}
use Rattle.std.specs.Arc.{arc_value}
use Rattle.road_detector.specs.Passes.{no_totals}
use Rattle.road_plan.specs.Plan.{Plan}
use Rattle.road_sheet.specs.Sheets.{Sheet}
use Rattle.road_sheet.proofs.SheetIntervals.{many_whole, stays_below}
use Rattle.road_sheet.proofs.sheet.Sheet.resume_at_checkpoint.Goals as goal

pub invariant_of-result : goal.invariant_of-result
invariant_of-result c =
    let now = c.args.self.now in
    stays_below _ now c.args.scenario (arc_value c.in_ok-plan.plan) _ c.args.interval _ _ _ c.in_ok-open_interval.open_interval _ c.in_ok-open_interval.at_horizon c.self.invariant c.self.view_is c.requires.winners c.requires.fits c.requires.simulated c.requires.same
    (c.in_ok-plan.ensures.plan ∙ ap (λ (x : Sheet). x.plan) c.self.view_is)
    (omega arith)
    c.in_ok-plan.ensures.intervals
    (c.in_ok-open_interval.ensures.road ∙ c.interval.ensures.start)
    (c.in_ok-open_interval.ensures.start ∙ sym c.in_ok-open_interval.ensures.road)
    (c.in_ok-open_interval.ensures.totals ∙ ap (λ n. replicate n no_totals) (ap length c.detectors.ensures.detectors ∙ ap (λ (q : Plan). length q.detectors) (c.deref.ensures ∙ sym c.in_ok-plan.ensures.plan)))

pub share_with_plan-requires : goal.share_with_plan-requires
share_with_plan-requires c = omega (arith, many_whole _ _ _ _ _ c.self.invariant c.self.view_is)
