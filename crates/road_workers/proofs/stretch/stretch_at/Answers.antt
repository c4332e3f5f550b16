-- A stretch does not end before it begins, and it is on the road.
use Rattle.std.proofs.Common.{◌≤◌, ◌+◌, ap, sym, subst, ◌∙◌, arith}
use Rattle.road_cells.specs.Cars.{cars_of}
use Rattle.road_workers.specs.Private.Stretches.{cut}
use Rattle.road_workers.proofs.Cuts.{cut-rise, cut-within}
use Rattle.road_workers.proofs.stretch.stretch_at.Goals as goal

pub returns-clause-order : goal.returns-clause-order
returns-clause-order c =
    let first = c.cut.ensures ∙ ap (λ cars. cut c.args.cells cars c.args.count c.args.place) c.cars.ensures.all in
    let end = c.cut-2.ensures ∙ ap (λ cars. cut c.args.cells cars c.args.count (c.args.place + 1)) c.cars-2.ensures.all in
    subst (λ x. x ≤ c.cut-2.result) (sym first) (subst (λ y. cut c.args.cells (cars_of c.args.road.now) c.args.count c.args.place ≤ y) (sym end)
    (cut-rise c.args.cells c.args.road.now c.args.count c.args.place c.requires.there))

pub returns-clause-within : goal.returns-clause-within
returns-clause-within c =
    let end = c.cut-2.ensures ∙ ap (λ cars. cut c.args.cells cars c.args.count (c.args.place + 1)) c.cars-2.ensures.all in
    subst (λ x. x ≤ c.args.cells) (sym end)
    (cut-within c.args.cells c.args.road.now c.args.count (c.args.place + 1) (omega (arith, c.requires.there)) (omega (arith, c.requires.there)))
