-- Each cell is above the one before.
use Rattle.std.proofs.Common.{rules}
use Rattle.road_plan.proofs.settings.do_rise.Goals as goal

pub loop-place-preserved : goal.loop-place-preserved
loop-place-preserved c = search rules
