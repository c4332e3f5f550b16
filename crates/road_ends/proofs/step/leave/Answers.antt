-- The cars before the deleted zone make the road without the cars in it.
use Rattle.std.proofs.Common.{rules, of_calls, ◌≡◌, ◌∙◌, true, false, sym, ap, subst, nat_lt}
use Rattle.std.specs.List.Sorted.{IsPartitionPoint, IsPartitionedBy}
use Rattle.std.proofs.lemmas.Fn.{always_returns_same}
use Rattle.road_plan.specs.Plan.{exit_start}
use Rattle.road_cells.specs.Cars.{AreRising, array_of}
use Rattle.road_cells.proofs.CarCounts.{parted_by_cell}
use Rattle.road_ends.proofs.StepByCars.{rise-take, left-take}
use Rattle.road_ends.proofs.step.leave.Goals as goal

pub of-requires : goal.of-requires
of-requires c = subst AreRising (sym c.truncate.ensures.items) (rise-take c.partition_point-staying.result c.into_cars-cars.result.items c.into_cars-cars.ensures.rise)

pub returns : goal.returns
returns c =
    let end = exit_start c.args.plan.now in
    let cars = c.into_cars-cars.result.items in
    let point = c.partition_point-staying.ensures.partitioned (λ car. nat_lt car.cell end) (always_returns_same _ _ _ (λ a r f k. search (rules, of_calls)))
    (subst (IsPartitionedBy (λ car. nat_lt car.cell end)) (sym c.deref.ensures.value) (parted_by_cell cars end c.into_cars-cars.ensures.rise)) in
    let here = subst (λ cars. IsPartitionPoint (λ car. nat_lt car.cell end ≡ true) (λ car. nat_lt car.cell end ≡ false) cars c.partition_point-staying.result) c.deref.ensures.value point in
    c.of.ensures.road ∙ ap array_of c.truncate.ensures.items ∙ left-take c.args.plan.now c.args.road cars c.partition_point-staying.result c.into_cars-cars.ensures.all c.into_cars-cars.ensures.rise here
