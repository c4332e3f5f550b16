-- A step that ends its interval: the interval is whole, and a new one begins.
use Rattle.std.proofs.Common.{◌+◌, ◌*◌, ◌/◌, ◌∙◌, ap, sym, subst, ℕ}
use Rattle.road_detector.specs.Laws.{PassOneByOne, BoundTotals}
use Rattle.road_sheet.specs.Private.Intervals.{IsInterval}
use Rattle.road_sheet.proofs.SheetIntervals.{counted_next, ended_interval, next_cars_fit, next_speeds_fit}
use Rattle.road_sheet.proofs.sheet.Sheet.step_to_end.Goals as goal

pub count-requires-clause-cars : goal.count-requires-clause-cars
count-requires-clause-cars c =
    next_cars_fit _ c.args.self.now _ c.self.inside.open_interval _ c.args.input.now c.args.speeds.now c.in_ok-ended.ended.totals.items c.self.invariant c.self.view_is (subst BoundTotals c.deref-2.ensures c.totals_are_bounded.ensures)
    (subst PassOneByOne c.deref.ensures c.cars_pass_one_by_one.ensures) c.requires.within_limit c.requires.input c.requires.speeds c.in_ok-ended.ensures.totals

pub count-requires-clause-speeds : goal.count-requires-clause-speeds
count-requires-clause-speeds c =
    next_speeds_fit _ c.args.self.now _ c.self.inside.open_interval _ c.args.input.now c.args.speeds.now c.in_ok-ended.ended.totals.items c.self.invariant c.self.view_is (subst BoundTotals c.deref-2.ensures c.totals_are_bounded.ensures)
    (subst PassOneByOne c.deref.ensures c.cars_pass_one_by_one.ensures) c.requires.within_limit c.requires.input c.requires.speeds c.in_ok-ended.ensures.totals

pub end_interval-requires-clause-ended : goal.end_interval-requires-clause-ended
end_interval-requires-clause-ended c =
    let s = c.args.self.now in
    let end = ap (λ (h : ℕ). h + 1) c.horizon.ensures.horizon in
    let counted =
    counted_next _ s _ c.self.inside.open_interval _ c.args.input.now c.args.speeds.now c.in_ok-ended.ended.totals.items c.count.new.self.totals.items c.self.invariant c.self.view_is c.requires.input c.requires.speeds c.in_ok-ended.ensures.totals
    c.count.ensures.each c.count.ensures.totals in
    subst (λ (n : ℕ). IsInterval s.plan s.edits (64 * (s.horizon / 64)) n c.count.new.self) (sym end)
    (ended_interval _ s (s.horizon + 1) _ c.self.inside.open_interval c.count.new.self _ c.self.invariant c.self.view_is (c.count.ensures.start ∙ c.in_ok-ended.ensures.start) counted)
