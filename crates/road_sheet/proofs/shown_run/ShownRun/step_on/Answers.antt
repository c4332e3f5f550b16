-- A step of the run under the settings of that step is a step of the sheet's run.
use Rattle.std.proofs.Common.{◌∙◌, length, ap, sym, refl}
use Rattle.std.specs.List.{slice_index_or}
use Rattle.road_detector.specs.Passes.{no_totals}
use Rattle.road_scenario.specs.Settings.{settings_of}
use Rattle.road_columns.specs.UnderWay.{UnderWay, run_after_step}
use Rattle.road_sheet.specs.Sheets.{Sheet, state_of}
use Rattle.road_sheet.specs.ShownRuns.{IsShownBy}
use Rattle.road_sheet.specs.declared.shown_run.ShownRun.{ShownRun}
use Rattle.road_sheet.proofs.ShownRuns.{IsSettled, length-run_after_step, settled_end, settled_road, settled_total}
use Rattle.road_sheet.proofs.shown_run.ShownRun.step_on.Goals as goal

-- the run under the settings of its step
abbrev settled : Sheet → UnderWay → UnderWay
settled s run = record run { settings = settings_of s.plan s.edits run.step }

is_settled : (s : Sheet) (shown : ShownRun) → IsShownBy s shown → IsSettled s (settled s shown.run)
is_settled s shown is = record { plan = is.plan; begin = is.begin; end = is.end; settings = refl; road = is.road }

pub returns-clause-each : goal.returns-clause-each
returns-clause-each c =
    let s = c.args.sheet.now in
    let run = settled s c.args.self.now.run in
    let step = c.in_ok-step.ensures.run_after_step ∙ ap run_after_step c.in_ok-settle.ensures.settled in ap (λ (r : UnderWay). length r.totals) step ∙ length-run_after_step run

pub returns-clause-counted : goal.returns-clause-counted
returns-clause-counted c = λ d below.
    let s = c.args.sheet.now in
    let run = settled s c.args.self.now.run in
    let step = c.in_ok-step.ensures.run_after_step ∙ ap run_after_step c.in_ok-settle.ensures.settled in
    ap (λ (r : UnderWay). slice_index_or r.totals d no_totals) step ∙ settled_total s run d (is_settled s c.args.self.now c.requires.shown) below

pub returns-clause-shown : goal.returns-clause-shown
returns-clause-shown c =
    let s = c.args.sheet.now in
    let run = settled s c.args.self.now.run in
    let is = is_settled s c.args.self.now c.requires.shown in
    let step = c.in_ok-step.ensures.run_after_step ∙ ap run_after_step c.in_ok-settle.ensures.settled in
    record {
      plan = ap (λ (r : UnderWay). r.plan) step ∙ is.plan;
      begin = ap (λ (r : UnderWay). r.lo) step ∙ is.begin;
      end = ap (λ (r : UnderWay). r.hi) step ∙ settled_end s run is;
      road = ap (λ (r : UnderWay). r.road) step ∙ settled_road s run is ∙ sym (ap (state_of s) (ap (λ (r : UnderWay). r.step) step));
      under = ap (λ (r : UnderWay). r.settings) c.in_ok-step.ensures.run_after_step ∙ c.in_ok-settle.ensures.shown.under;
      cached = c.in_ok-settle.ensures.shown.cached;
    }
