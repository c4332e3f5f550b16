-- The interval is whole, and a new one begins.
use Rattle.std.proofs.Common.{◌∙◌, ap, subst, sym}
use Rattle.road_cells.specs.Cars.{cars_of}
use Rattle.road_plan.specs.Plan.{IsWithinLimits}
use Rattle.road_ends.specs.Laws.{StayOnRoad}
use Rattle.road_scenario.specs.Settings.{settings_of}
use Rattle.road_sheet.specs.Private.Checkpoints.{AreSmall}
use Rattle.road_sheet.specs.Sheets.{Sheet}
use Rattle.road_sheet.proofs.SmallCars.{small_cars}
use Rattle.road_sheet.proofs.SheetIntervals.{ends_interval}
use Rattle.road_sheet.proofs.sheet.Sheet.end_interval.Goals as goal

pub invariant_of-self-2 : goal.invariant_of-self-2
invariant_of-self-2 c =
    ends_interval _ c.args.self.now c.args.end c.self.inside.intervals c.push.new.self c.self.inside.open_interval c.args.ended c.in_ok-next.next _ c.args.road c.self.invariant c.self.view_is c.requires.within
    c.requires.road c.requires.ended c.requires.at_end c.in_ok-next.ensures.totals c.in_ok-next.ensures.start c.in_ok-push.ensures.pushed

-- The cars of a run fit into a checkpoint.
pub next_interval-requires : goal.next_interval-requires
next_interval-requires c =
    let s = c.args.self.now in
    subst (λ a. AreSmall (cars_of a)) (sym c.requires.road)
    (small_cars s.plan (settings_of s.plan s.edits) c.args.end
    (subst (λ (x : Sheet). IsWithinLimits x.plan) c.self.view_is c.self.invariant.sheet.plan_within)
    c.requires.within.within_limit
    (subst StayOnRoad (c.deref.ensures ∙ ap (λ (x : Sheet). x.plan) c.self.view_is) c.cars_stay_on_road.ensures))
