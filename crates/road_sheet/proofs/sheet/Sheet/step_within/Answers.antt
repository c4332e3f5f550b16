-- A step within the open interval.
use Rattle.std.proofs.Common.{◌+◌, ap, subst, refl, ℕ}
use Rattle.road_detector.specs.Laws.{PassOneByOne, BoundTotals}
use Rattle.road_sheet.proofs.SheetIntervals.{counted_next, next_cars_fit, next_speeds_fit, one_more, stays_in_interval}
use Rattle.road_sheet.proofs.sheet.Sheet.step_within.Goals as goal

pub count-requires-clause-cars : goal.count-requires-clause-cars
count-requires-clause-cars c =
    next_cars_fit _ c.args.self.now _ c.self.inside.open_interval _ c.args.input.now c.args.speeds.now c.self.inside.open_interval.totals.items c.self.invariant c.self.view_is (subst BoundTotals c.deref-2.ensures c.totals_are_bounded.ensures)
    (subst PassOneByOne c.deref.ensures c.cars_pass_one_by_one.ensures) c.requires.within_limit c.requires.input c.requires.speeds refl

pub count-requires-clause-speeds : goal.count-requires-clause-speeds
count-requires-clause-speeds c =
    next_speeds_fit _ c.args.self.now _ c.self.inside.open_interval _ c.args.input.now c.args.speeds.now c.self.inside.open_interval.totals.items c.self.invariant c.self.view_is (subst BoundTotals c.deref-2.ensures c.totals_are_bounded.ensures)
    (subst PassOneByOne c.deref.ensures c.cars_pass_one_by_one.ensures) c.requires.within_limit c.requires.input c.requires.speeds refl

pub invariant_of-self : goal.invariant_of-self
invariant_of-self c =
    let end = ap (λ (h : ℕ). h + 1) c.horizon-horizon.ensures.horizon in
    stays_in_interval _ c.args.self.now (c.args.self.now.horizon + 1) (c.horizon-horizon.result + 1) _ c.self.inside.open_interval c.count.new.self _ c.args.road c.self.invariant c.self.view_is (one_more c.args.self.now c.requires.within_limit) c.requires.road
    (counted_next _ c.args.self.now _ c.self.inside.open_interval _ c.args.input.now c.args.speeds.now c.self.inside.open_interval.totals.items c.count.new.self.totals.items c.self.invariant c.self.view_is c.requires.input c.requires.speeds refl c.count.ensures.each c.count.ensures.totals)
    c.requires.within_interval end c.count.ensures.start
