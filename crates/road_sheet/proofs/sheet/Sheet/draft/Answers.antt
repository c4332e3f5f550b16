-- The join of two scenarios that fit the plan fits it too.
use Rattle.std.proofs.Common.{sym, subst}
use Rattle.road_scenario.specs.Faults.{AreInRange}
use Rattle.road_sheet.proofs.sheet.Sheet.draft.Goals as goal

pub draft_of-requires-clause-fits : goal.draft_of-requires-clause-fits
draft_of-requires-clause-fits c =
    let s = c.args.self.now in
    c.in_ok-joined.ensures.fits s.plan (subst (AreInRange s.plan) (sym c.scenario.ensures.scenario) c.scenario.ensures.is_sheet.in_range) c.requires.fits
