use Rattle.std.proofs.Common.{ℕ, sym, subst}
use Rattle.std.specs.List.Sorted.{IsNonDecreasing}
use Rattle.road_plan.specs.Settings.{defaults}
use Rattle.road_detector.proofs.MarkedRow.{HasDigits}
use Rattle.road_ends.proofs.StepByCars.{not_falling}
use Rattle.tests_steps.proofs.plain.row.Goals as goal

pub row_text-requires-clause-rising : goal.row_text-requires-clause-rising
row_text-requires-clause-rising c =
    subst IsNonDecreasing (sym c.blocks-2.ensures) (not_falling c.in_ok-settings.settings.blocks c.in_ok-settings.ensures.fits.blocks_rise)

pub row_text-requires-clause-digits : goal.row_text-requires-clause-digits
row_text-requires-clause-digits c =
    subst HasDigits (sym c.in_ok-road.ensures)
    (λ cell car here. (c.cars_stay_on_road.ensures (λ (_ : ℕ). defaults c.args.plan.now) c.args.step cell car here).slow_enough)
