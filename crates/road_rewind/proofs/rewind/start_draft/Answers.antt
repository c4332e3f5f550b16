-- The joined scenario fits the plan, since both of its parts do; the draft begins where its run is no longer the sheet's.
use Rattle.std.proofs.Common.{sym, subst}
use Rattle.road_scenario.specs.Faults.{AreInRange}
use Rattle.road_rewind.proofs.rewind.start_draft.Goals as goal

pub draft_of-requires-clause-fits : goal.draft_of-requires-clause-fits
draft_of-requires-clause-fits c =
    let s = c.args.sheet.now in
    c.in_ok-joined.ensures.fits s.plan (subst (AreInRange s.plan) (sym c.scenario.ensures.scenario) c.scenario.ensures.is_sheet.in_range) c.requires.fits

pub returns-clause-draft : goal.returns-clause-draft
returns-clause-draft c =
    let draft = c.in_ok-draft.ensures in
    rw (c.kept_step-keep.ensures, c.horizon.ensures.horizon, c.touched_by-touched.ensures, c.in_ok-joined.ensures.winners, c.scenario.ensures.scenario, c.scenario-2.ensures.scenario) at draft

pub returns-clause-touched : goal.returns-clause-touched
returns-clause-touched c =
    let touched = c.touched_by-touched.ensures in
    rw (c.in_ok-joined.ensures.winners, c.scenario.ensures.scenario, c.scenario-2.ensures.scenario) at touched
