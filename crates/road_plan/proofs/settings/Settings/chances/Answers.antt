-- The list of the chances.
use Rattle.std.proofs.Common.{rules}
use Rattle.road_plan.proofs.settings.Settings.chances.Goals as goal

pub returns : goal.returns
returns c = search rules
