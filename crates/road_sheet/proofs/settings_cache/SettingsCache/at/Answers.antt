-- The settings of a sheet's step are those of its plan and its edits.
use Rattle.std.proofs.Common.{◌≡◌, IfOk, subst}
use Rattle.std.specs.Arc.{arc_value}
use Rattle.road_plan.specs.Plan.{Plan}
use Rattle.road_scenario.specs.Edits.{Edits}
use Rattle.road_scenario.specs.Settings.{settings_of}
use Rattle.road_sheet.proofs.settings_cache.SettingsCache.at.Goals as goal

pub returns-clause-settings : goal.returns-clause-settings
returns-clause-settings c =
    let s = c.args.sheet.now in
    subst (λ (e : Edits). IfOk c.at_step.result (λ settings. arc_value settings ≡ settings_of s.plan e c.args.step)) c.scenario.ensures.scenario
    (subst (λ (p : Plan). IfOk c.at_step.result (λ settings. arc_value settings ≡ settings_of p c.scenario.result.now c.args.step)) c.plan.ensures c.at_step.ensures.settings)
