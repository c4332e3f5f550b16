-- The cars of a road that are those near a stretch make it agree with the road there.
use Rattle.std.proofs.Common.{◌+◌, ◌-◌, ◌*◌, subst, ◌∙◌}
use Rattle.road_cells.specs.declared.car.TheConstants.{GREATEST_SPEED}
use Rattle.road_ends.specs.Laws.{AgreeBetween}
use Rattle.road_workers.proofs.StretchCars.{near_agrees}
use Rattle.road_workers.proofs.stretch.is_near.Goals as goal

pub returns : goal.returns
returns c is =
    let all = GREATEST_SPEED * c.args.span.now.steps in
    subst (λ x. AgreeBetween (c.args.stretch.first - all) (c.args.stretch.end + all) x c.args.road.now) c.cars.ensures.road
    (near_agrees c.args.road.now (c.args.stretch.first - all) (c.args.stretch.end + all) c.cars.result.now (c.are_same_cars.ensures.0 is ∙ c.cars_near.ensures))
