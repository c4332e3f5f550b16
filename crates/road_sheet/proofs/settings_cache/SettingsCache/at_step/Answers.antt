-- Settings that are in force at a step are its settings.
use Rattle.std.specs.Arc.{arc_value}
use Rattle.road_sheet.proofs.settings_cache.SettingsCache.at_step.Goals as goal

pub returns-in-Some-clause-settings : goal.returns-in-Some-clause-settings
returns-in-Some-clause-settings c = (rw c.in-Some.is at (c.in_ok-settings.ensures (arc_value c.args.plan.now) c.args.scenario.now c.requires.cached)).0

pub returns-in-Some-clause-fits : goal.returns-in-Some-clause-fits
returns-in-Some-clause-fits c = (rw c.in-Some.is at (c.in_ok-settings.ensures (arc_value c.args.plan.now) c.args.scenario.now c.requires.cached)).1
