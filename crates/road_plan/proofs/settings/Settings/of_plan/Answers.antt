-- The settings that are made are the plan's own, and fit it.
use Rattle.std.proofs.Common.{rules}
use Rattle.road_plan.proofs.OwnSettings.{own_settings_fit}
use Rattle.road_plan.proofs.settings.Settings.of_plan.Goals as goal

-- they are the plan's own, and the plan is within the limits
pub returns-clause-fits : goal.returns-clause-fits
returns-clause-fits c = own_settings_fit _ _ (search rules) c.inlets.ensures.within
