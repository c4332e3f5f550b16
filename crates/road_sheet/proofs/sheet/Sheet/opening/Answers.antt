-- Without edits and steps, a sheet shows the empty road of step 0.
use Rattle.std.proofs.Common.{◌∙◌, ap, sym, subst, length, replicate}
use Rattle.road_detector.specs.Passes.{no_totals}
use Rattle.std.specs.Arc.{arc_value}
use Rattle.road_plan.specs.Plan.{Plan, IsWithinLimits}
use Rattle.road_scenario.specs.Winners.{AreWinners}
use Rattle.road_scenario.proofs.NoEdits.{winners-empty}
use Rattle.road_sheet.proofs.SheetIntervals.{opened}
use Rattle.road_sheet.proofs.sheet.Sheet.opening.Goals as goal

pub invariant_of-result : goal.invariant_of-result
invariant_of-result c =
    let p = arc_value c.args.plan in
    opened p c.empty-3.result _ c.in_ok-open_interval.open_interval c.empty-4.result
    (subst IsWithinLimits c.deref.ensures c.detectors-detectors.ensures.within)
    (subst AreWinners (sym c.empty-3.ensures.none) winners-empty)
    (c.empty-3.ensures.fits p)
    c.in_ok-intervals.ensures
    (c.in_ok-open_interval.ensures.start ∙ c.in_ok-empty.ensures)
    (c.in_ok-open_interval.ensures.totals ∙ ap (λ n. replicate n no_totals) (ap length c.detectors-detectors.ensures.detectors ∙ ap (λ (q : Plan). length q.detectors) c.deref.ensures))
    c.empty-4.ensures
