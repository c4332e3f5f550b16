-- The interval is whole, and a new one begins.
use Rattle.std.proofs.Common.{◌∙◌, ap, length, replicate, subst, sym}
use Rattle.road_cells.specs.Cars.{cars_of}
use Rattle.road_plan.specs.Plan.{IsWithinLimits, Plan}
use Rattle.road_detector.specs.Passes.{no_totals}
use Rattle.road_ends.specs.Laws.{StayOnRoad}
use Rattle.road_scenario.specs.Settings.{settings_of}
use Rattle.road_sheet.specs.Private.Checkpoints.{AreSmall}
use Rattle.road_sheet.specs.Sheets.{Sheet, state_of}
use Rattle.road_sheet.proofs.SmallCars.{small_cars}
use Rattle.road_sheet.proofs.SheetIntervals.{counted_with, ended_interval, ends_interval}
use Rattle.road_sheet.proofs.span_draft.SpanDraft.end_interval.Goals as goal

-- The cars of a run fit into a checkpoint.
pub of-requires : goal.of-requires
of-requires c =
    let s = c.args.self.now in
    subst (λ a. AreSmall (cars_of a)) (sym c.requires.road)
    (small_cars s.plan (settings_of s.plan s.edits) c.args.end
    (subst (λ (x : Sheet). IsWithinLimits x.plan) c.self.view_is c.self.invariant.run.sheet.plan_within)
    c.requires.within.within_limit
    (subst StayOnRoad (c.deref-2.ensures ∙ ap (λ (x : Sheet). x.plan) c.self.view_is) c.cars_stay_on_road.ensures))

pub invariant_of-self-2 : goal.invariant_of-self-2
invariant_of-self-2 c =
    let now = c.args.self.now in
    let old = c.self.inside.open_interval in
    let ended = c.add.new.self in
    let road = ap (λ (x : Sheet). state_of x c.args.end) c.self.view_is in
    let plan = c.deref-3.ensures ∙ ap (λ (x : Sheet). x.plan) c.self.view_is in
    record {
      run =
          ends_interval _ now c.args.end c.self.inside.intervals c.push.new.self old ended c.in_ok-next.next _ _ c.self.invariant.run c.self.view_is c.requires.within road
          (ended_interval _ now c.args.end _ old ended _ c.self.invariant.run c.self.view_is (c.add.ensures.start ∙ c.in_ok-ended.ensures.start)
          (counted_with _ now c.args.end _ old _ c.in_ok-ended.ended.totals.items c.args.totals.now ended.totals.items c.self.invariant.run c.self.view_is c.requires.within c.requires.totals c.in_ok-ended.ensures.totals c.add.ensures.each c.add.ensures.totals))
          c.requires.at_end
          (c.in_ok-next.ensures.totals ∙ ap (λ n. replicate n no_totals) (ap length c.detectors.ensures.detectors ∙ ap (λ (q : Plan). length q.detectors) plan))
          (c.in_ok-next.ensures.start ∙ c.in_ok-start.ensures ∙ c.requires.road ∙ sym road)
          c.in_ok-push.ensures.pushed;
      cached = c.self.invariant.cached;
    }
