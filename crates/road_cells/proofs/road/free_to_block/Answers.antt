-- The cells up to the next block, or as many as a car looks at.
use Rattle.std.proofs.Common.{sym, ap, ◌+◌, ◌-◌, ◌∙◌, arith, min}
use Rattle.road_cells.specs.declared.car.TheConstants.{GREATEST_SPEED}
use Rattle.road_cells.proofs.CellsAhead.{free_to_point, free_to_end}
use Rattle.road_cells.proofs.road.free_to_block.Goals as goal

pub free_between-requires : goal.free_between-requires
free_between-requires c =
    let found = c.in-Some.ensures.lookup.3 in
    let far = c.requires.parted.ahead c.args.reached (omega arith) found.0 in
    let is = found.1 0 in
    omega arith

pub returns-in-Some : goal.returns-in-Some
returns-in-Some c =
    let found = c.in-Some.ensures.lookup.3 in
    c.free_between.ensures ∙ ap (λ block. min GREATEST_SPEED (block - (c.args.cell + 1))) (found.1 0)
    ∙ sym (free_to_point c.args.blocks.now c.args.cell c.args.reached c.requires.rising c.requires.parted GREATEST_SPEED found.0)

pub returns-in-None : goal.returns-in-None
returns-in-None c = sym (free_to_end c.args.blocks.now c.args.cell c.args.reached c.requires.rising c.requires.parted GREATEST_SPEED c.in-None.ensures.lookup.3)
