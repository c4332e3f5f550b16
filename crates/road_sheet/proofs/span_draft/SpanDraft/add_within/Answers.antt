-- Steps within the open interval.
use Rattle.std.proofs.Common.{ap, refl}
use Rattle.road_sheet.specs.Sheets.{Sheet, state_of}
use Rattle.road_sheet.proofs.SheetIntervals.{counted_with, stays_in_interval}
use Rattle.road_sheet.proofs.span_draft.SpanDraft.add_within.Goals as goal

pub invariant_of-self : goal.invariant_of-self
invariant_of-self c = record {
  run =
      stays_in_interval _ c.args.self.now c.args.end c.args.end _ c.self.inside.open_interval c.add.new.self _ _ c.self.invariant.run c.self.view_is c.requires.within (ap (λ (x : Sheet). state_of x c.args.end) c.self.view_is)
      (counted_with _ c.args.self.now c.args.end _ c.self.inside.open_interval _ c.self.inside.open_interval.totals.items c.args.totals.now c.add.new.self.totals.items c.self.invariant.run c.self.view_is c.requires.within c.requires.totals refl c.add.ensures.each c.add.ensures.totals)
      c.requires.within_interval refl c.add.ensures.start;
  cached = c.self.invariant.cached;
}
