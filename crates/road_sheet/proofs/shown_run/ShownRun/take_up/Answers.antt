-- A road that a sheet has stored is a road of its run, so a run under way can restart on it.
use Rattle.std.proofs.Common.{◌≡◌, ◌≤◌, ◌∙◌, ap, sym, subst, arith}
use Rattle.std.proofs.Math.Path.{transport}
use Rattle.road_plan.specs.Plan.{IsWithinLimits, Plan}
use Rattle.road_ends.specs.Laws.{StayOnRoad}
use Rattle.road_scenario.specs.Settings.{settings_of}
use Rattle.road_columns.specs.UnderWay.{IsRunnable, UnderWay}
use Rattle.road_sheet.specs.Sheets.{state_of}
use Rattle.road_sheet.proofs.SmallCars.{runnable}
use Rattle.road_sheet.proofs.shown_run.ShownRun.take_up.Goals as goal

pub returns : goal.returns
returns c =
    let s = c.args.sheet.now in
    let kept = c.in_ok-kept.kept in
    let before : kept.step ≤ c.args.step = c.in_ok-kept.ensures.before in
    let limits = subst IsWithinLimits (c.deref.ensures ∙ c.plan.ensures) c.length.ensures.within in
    let stay = subst StayOnRoad (c.deref-2.ensures ∙ c.plan-2.ensures) c.cars_stay_on_road.ensures in
    let can = runnable s.plan (settings_of s.plan s.edits) kept.step limits (omega (arith, before, c.requires.horizon)) stay in
    let cells : c.length.result ≡ s.plan.cells = c.length.ensures.cells ∙ ap (λ (p : Plan). p.cells) (c.deref.ensures ∙ c.plan.ensures) in
    let here : IsRunnable 0 c.length.result c.args.self.now.run.plan kept.road = transport (λ j. IsRunnable 0 ((sym cells) j) ((sym c.requires.plan) j) ((sym c.in_ok-kept.ensures.road) j)) can in
    let taken = c.in_ok-_taken.ensures.taken (c.in_ok-_taken.ensures.runnable.1 here) in
    let step = ap (λ (r : UnderWay). r.step) taken in
    record {
      before = omega (arith, step, before);
      shown = record {
        plan = ap (λ (r : UnderWay). r.plan) taken ∙ c.requires.plan;
        begin = ap (λ (r : UnderWay). r.lo) taken;
        end = ap (λ (r : UnderWay). r.hi) taken ∙ cells;
        road = ap (λ (r : UnderWay). r.road) taken ∙ c.in_ok-kept.ensures.road ∙ sym (ap (state_of s) step);
        under = ap (λ (r : UnderWay). r.settings) taken ∙ c.in_ok-settings.ensures.settings;
        cached = c.in_ok-settings.ensures.cached;
      };
    }
