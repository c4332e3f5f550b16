-- The cars between two cells, as the part of the list that was found.
use Rattle.std.proofs.Common.{rules, ◌≤◌, ◌-◌, ◌∙◌, arith, take, drop}
use Rattle.road_cells.proofs.CarsBetween.{found_between, before-le}
use Rattle.road_cells.proofs.road.Road.between.Goals as goal

pub slice_bounds-result-count : goal.slice_bounds-result-count
slice_bounds-result-count c = let le = before-le c.args.self.now c.args.from c.args.to c.requires in let first = c.cars_before-first.ensures in let end = c.cars_before-end.ensures in omega arith

pub slice_bounds-result-start : goal.slice_bounds-result-start
slice_bounds-result-start c =
    let le = before-le c.args.self.now c.args.from c.args.to c.requires in
    let first = c.cars_before-first.ensures in
    let end = c.cars_before-end.ensures in
    let order : c.cars_before-first.result ≤ c.cars_before-end.result = omega arith in
    search rules

pub returns : goal.returns
returns c =
    (λ i. take (c.cars_before-end.ensures i - c.cars_before-first.ensures i) (drop (c.cars_before-first.ensures i) (c.cars.ensures.all i)))
    ∙ found_between c.args.self.now c.args.from c.args.to c.requires
