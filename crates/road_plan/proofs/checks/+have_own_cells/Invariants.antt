-- The search for two inlets at one cell ends.
use Rattle.std.proofs.Common.{length}
use Rattle.road_plan.proofs.checks.+have_own_cells.Given as goal

-- each call has one inlet less
abbrev pub decreases-have_own_cells : goal.decreases-have_own_cells
decreases-have_own_cells l = length l.inlets.now
