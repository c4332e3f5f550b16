-- The cars of all cells make the road.
use Rattle.std.proofs.Common.{ap, ◌∙◌}
use Rattle.road_cells.specs.Cars.{array_of}
use Rattle.road_ends.specs.Span.{span_road}
use Rattle.road_workers.proofs.StretchCars.{between_rises}
use Rattle.road_workers.proofs.StretchTotals.{whole_totals}
use Rattle.road_workers.proofs.SideBySide.{whole_road}
use Rattle.road_workers.proofs.stretch.joining.whole_run.Goals as goal

pub of-requires : goal.of-requires
of-requires c = between_rises (span_road c.args.span.now c.args.road.now) 0 c.args.cells c.args.joined.cars.items c.requires.joined.cars

pub returns-clause-road : goal.returns-clause-road
returns-clause-road c = c.of.ensures.road ∙ ap array_of c.requires.joined.cars ∙ whole_road c.args.span.now c.args.cells c.args.road.now c.requires.some c.requires.cells

pub returns-clause-totals : goal.returns-clause-totals
returns-clause-totals c = whole_totals c.args.span.now c.args.cells c.args.road.now c.args.joined.totals.items c.requires.within c.requires.cells c.requires.joined.totals
