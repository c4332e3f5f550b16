-- Settings that are in force from a step up to another are those of each step between.
use Rattle.std.proofs.Common.{◌≡◌, ◌∙◌, ap, sym, arith, inl, inr}
use Rattle.road_scenario.specs.Settings.{settings_of}
use Rattle.road_sheet.proofs.settings_cache.SettingsCache.until.Goals as goal

pub returns-in-Some-clause-same : goal.returns-in-Some-clause-same
returns-in-Some-clause-same c = λ plan edits cached t after early.
    let kept = cached.last c.in-Some.kept c.in-Some.is in
    elim (c.until_from.ensures.in_force t after early) as (λ _. settings_of plan edits t ≡ settings_of plan edits c.args.step) [
      | inl here ↦ ap (settings_of plan edits) here
      | inr within ↦ kept.in_force t (omega (arith, within.0, after)) within.1 ∙ sym (kept.in_force c.args.step within.0 (omega (arith, after, within.1)))
    ]
