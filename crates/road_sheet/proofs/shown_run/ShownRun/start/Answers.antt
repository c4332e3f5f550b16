-- A road that a sheet has stored is a road of its run, so a run under way can start on it.
use Rattle.std.proofs.Common.{◌≡◌, ◌≤◌, ◌∙◌, ap, sym, subst, arith}
use Rattle.std.proofs.Math.Path.{transport}
use Rattle.std.proofs.lemmas.Bool.{false≢true}
use Rattle.std.specs.Prelude.{is_some}
use Rattle.std.specs.declared.option.Option.{Option}
use Rattle.road_plan.specs.Plan.{IsWithinLimits, Plan}
use Rattle.road_ends.specs.Laws.{StayOnRoad}
use Rattle.road_scenario.specs.Settings.{settings_of}
use Rattle.road_columns.specs.UnderWay.{IsRunnable}
use Rattle.road_columns.specs.declared.under_way.UnderWay.{UnderWay}
use Rattle.road_sheet.proofs.SmallCars.{runnable}
use Rattle.road_sheet.proofs.shown_run.ShownRun.start.Goals as goal

pub unreachable-requires : goal.unreachable-requires
unreachable-requires c =
    let s = c.args.sheet.now in
    let state = c.in_ok-state.state in
    let before : state.step ≤ c.args.step = c.in_ok-state.ensures.before in
    let limits = subst IsWithinLimits (c.deref.ensures ∙ c.plan.ensures) c.length.ensures.within in
    let stay = subst StayOnRoad (c.deref-2.ensures ∙ c.plan-2.ensures) c.cars_stay_on_road.ensures in
    let can = runnable s.plan (settings_of s.plan s.edits) state.step limits (omega (arith, before, c.requires.horizon)) stay in
    let cells : c.length.result ≡ s.plan.cells = c.length.ensures.cells ∙ ap (λ (p : Plan). p.cells) (c.deref.ensures ∙ c.plan.ensures) in
    let here = transport (λ j. IsRunnable 0 ((sym cells) j) ((sym (c.in_ok-plan.ensures ∙ c.plan-3.ensures)) j) ((sym c.in_ok-state.ensures.road) j)) can in
    false≢true (ap (λ (run : Option UnderWay). is_some run) (sym c.in_default.is) ∙ c.in_ok-begun.ensures.runnable.1 here)
