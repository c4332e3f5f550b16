-- New settings are in force up to the next date.
use Rattle.std.proofs.Common.{◌≡◌, ◌∙◌, Some, ap, sym, subst}
use Rattle.std.specs.Arc.{arc_value}
use Rattle.road_plan.specs.Plan.{Plan}
use Rattle.road_plan.specs.Settings.{Settings, Fits}
use Rattle.road_scenario.specs.Faults.{AreInRange}
use Rattle.road_scenario.specs.Settings.{settings_of}
use Rattle.road_sheet.specs.SettingsCaches.{AreInForce}
use Rattle.road_sheet.specs.declared.settings_cache.InForce.{InForce}
use Rattle.road_sheet.proofs.settings_cache.SettingsCache.renew.Goals as goal

the_one : {a b : InForce} → Some a ≡ Some b → a ≡ b
the_one h = cc

pub returns-clause-cached : goal.returns-clause-cached
returns-clause-cached c =
    let p = arc_value c.args.plan.now in
    let edits = c.args.scenario.now in
    let made = sym (c.in_ok-settings.ensures.ok ∙ c.in_ok-settings_at.ensures.made ∙ ap (λ (q : Plan). settings_of q edits c.args.step) c.deref.ensures) in
    record {
      last = λ kept is. subst (λ (k : InForce). AreInForce p edits (arc_value k.settings) k.from k.until) (the_one is) (record {
        fits = subst (λ (s : Settings). Fits p s) (sym c.in_ok-settings.ensures.ok) (subst (λ (q : Plan). Fits q c.in_ok-settings_at.field-0) c.deref.ensures c.in_ok-settings_at.ensures.fits);
        in_force = λ t order early. c.until.ensures p t order early ∙ made;
      });
    }

pub settings_at-requires : goal.settings_at-requires
settings_at-requires c = subst (λ (q : Plan). AreInRange q c.args.scenario.now) (sym c.deref.ensures) c.requires.fits
