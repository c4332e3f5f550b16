-- The cells up to the next car, or as many as a car looks at.
use Rattle.std.proofs.Common.{sym, ap, ◌+◌, ◌-◌, ◌∙◌, arith, min}
use Rattle.road_cells.specs.Cars.{cell_at}
use Rattle.road_cells.proofs.CarPlaces.{rise-at}
use Rattle.road_cells.specs.declared.car.TheConstants.{GREATEST_SPEED}
use Rattle.road_cells.proofs.CellsAhead.{cell_at-is, free_to_next, free_to_none}
use Rattle.road_cells.proofs.road.free_to_car.Goals as goal

pub free_between-requires : goal.free_between-requires
free_between-requires c =
    let found = c.in-Some.ensures.lookup.3 in
    let is = cell_at-is c.args.cars.now (c.args.place + 1) c.in-Some.next.now found.1 in
    let further = rise-at 0 c.args.cars.now c.args.place (c.args.place + 1) c.requires.rising (omega arith) found.0 in
    omega arith

pub returns-in-Some : goal.returns-in-Some
returns-in-Some c =
    let found = c.in-Some.ensures.lookup.3 in
    let is = cell_at-is c.args.cars.now (c.args.place + 1) c.in-Some.next.now found.1 in
    c.free_between.ensures ∙ ap (λ next. min GREATEST_SPEED (next - (cell_at c.args.cars.now c.args.place + 1))) (sym is)
    ∙ sym (free_to_next c.args.cars.now c.args.place GREATEST_SPEED c.in-Some.next.now c.requires.rising found.0)

pub returns-in-None : goal.returns-in-None
returns-in-None c = sym (free_to_none c.args.cars.now c.args.place GREATEST_SPEED c.requires.rising c.requires.car c.in-None.ensures.lookup.3)
