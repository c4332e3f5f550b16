-- A binary search counts the cars before a cell.
use Rattle.std.proofs.Common.{rules, of_calls, ◌∙◌, ap, sym, subst, nat_lt}
use Rattle.std.specs.List.{count_by}
use Rattle.std.specs.List.Sorted.{IsPartitionedBy}
use Rattle.std.proofs.lemmas.Fn.{always_returns_same}
use Rattle.road_cells.specs.Cars.{cars_of}
use Rattle.road_cells.proofs.CarLists.{cars_of-array_of}
use Rattle.road_cells.proofs.CarCounts.{count-parted, parted_by_cell}
use Rattle.road_cells.proofs.road.Road.cars_before.Goals as goal

pub returns : goal.returns
returns c =
    let cars = c.self.inside.cars.items in
    let point = c.partition_point.ensures.partitioned (λ car. nat_lt car.cell c.args.cell) (always_returns_same _ _ _ (λ a r f k. search (rules, of_calls)))
    (subst (IsPartitionedBy (λ car. nat_lt car.cell c.args.cell)) (sym c.deref.ensures.value) (parted_by_cell cars c.args.cell c.self.invariant)) in
    sym (count-parted (λ car. nat_lt car.cell c.args.cell) c.deref.result.now c.partition_point.result c.partition_point.ensures.bound point)
    ∙ ap (count_by (λ car. nat_lt car.cell c.args.cell)) (c.deref.ensures.value ∙ sym (cars_of-array_of cars c.self.invariant) ∙ ap cars_of c.self.view_is)
