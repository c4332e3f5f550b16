-- The blocks of settings that fit rise, and the gap on the road is the gap of the cells.
use Rattle.std.proofs.Common.{◌∙◌, ap}
use Rattle.road_cells.specs.Cars.{cars_of, cell_at}
use Rattle.road_cells.specs.Gap.{free_cells}
use Rattle.road_ends.proofs.StepByCars.{not_falling, gap-free_cells}
use Rattle.road_ends.proofs.laws.gap_on_road.Goals as goal

pub gap-requires-clause-rising : goal.gap-requires-clause-rising
gap-requires-clause-rising c = rw c.blocks-2.ensures (not_falling c.args.settings.now.blocks c.requires.fits.blocks_rise)

pub returns : goal.returns
returns c =
    let cell = cell_at (cars_of c.args.road.now) c.args.place in
    c.gap.ensures ∙ ap (λ blocks. free_cells blocks c.args.road.now cell) c.blocks-2.ensures
    ∙ gap-free_cells c.args.plan.now c.args.settings.now c.args.road.now cell c.requires.fits c.requires.on_road
