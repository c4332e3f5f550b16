-- A scenario that fits the plan has settings at each step.
use Rattle.std.proofs.Common.{sym, subst}
use Rattle.road_plan.specs.Plan.{Plan}
use Rattle.road_scenario.specs.Faults.{AreInRange}
use Rattle.road_sheet.proofs.simulation.row_of.Goals as goal

pub settings_at-requires : goal.settings_at-requires
settings_at-requires c = subst (λ (p : Plan). AreInRange p c.args.scenario.now) (sym c.deref-2.ensures) c.requires.fits
