-- Whether the inlets' cells differ, by the first inlet and the others.
use Rattle.std.proofs.Common.{refl}
use Rattle.road_plan.proofs.InletCells.{cells_differ}
use Rattle.road_plan.proofs.checks.+have_own_cells.Goals as goal

-- no other inlet is at the first one's cell
pub returns-then-not-has_inlet_at : goal.returns-then-not-has_inlet_at
returns-then-not-has_inlet_at t c =
    rw (cells_differ _ _ _ c.in-Some.ensures.cases.0, ← c.has_inlet_at.ensures, ← c.have_own_cells.ensures, c.if-not-has_inlet_at.true) refl

-- another inlet is at the first one's cell
pub returns-else-not-has_inlet_at : goal.returns-else-not-has_inlet_at
returns-else-not-has_inlet_at t c =
    rw (cells_differ _ _ _ c.in-Some.ensures.cases.0, ← c.has_inlet_at.ensures, c.if-not-has_inlet_at.false) refl
