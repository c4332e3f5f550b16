-- The cars near a stretch rise, and agree with the road there.
use Rattle.std.proofs.Common.{◌+◌, ◌-◌, ◌*◌, ◌++◌, ap, sym, subst, ◌∙◌}
use Rattle.road_cells.specs.declared.car.TheConstants.{GREATEST_SPEED}
use Rattle.road_ends.specs.Laws.{AgreeBetween}
use Rattle.road_workers.specs.Private.Stretches.{IsRunnableNear}
use Rattle.road_workers.proofs.NearCars.{near_runnable}
use Rattle.road_workers.proofs.StretchCars.{near_agrees, between_rises}
use Rattle.road_workers.proofs.stretch.road_near.Goals as goal

pub of-requires : goal.of-requires
of-requires c =
    let are = c.in_ok-extend_from_slice.ensures.items ∙ ap (λ cars. cars ++ c.cars_near.result.now) c.new-cars.ensures.items ∙ c.cars_near.ensures in
    let all = GREATEST_SPEED * c.args.span.now.steps in
    between_rises c.args.road.now (c.args.stretch.first - all) (c.args.stretch.end + all) c.extend_from_slice.new.self.items are

pub returns-clause-agrees : goal.returns-clause-agrees
returns-clause-agrees c =
    let are = c.in_ok-extend_from_slice.ensures.items ∙ ap (λ cars. cars ++ c.cars_near.result.now) c.new-cars.ensures.items ∙ c.cars_near.ensures in
    let all = GREATEST_SPEED * c.args.span.now.steps in
    subst (λ x. AgreeBetween (c.args.stretch.first - all) (c.args.stretch.end + all) x c.args.road.now) (sym c.of.ensures.road)
    (near_agrees c.args.road.now (c.args.stretch.first - all) (c.args.stretch.end + all) c.extend_from_slice.new.self.items are)

pub returns-clause-runnable : goal.returns-clause-runnable
returns-clause-runnable c all =
    let are = c.in_ok-extend_from_slice.ensures.items ∙ ap (λ cars. cars ++ c.cars_near.result.now) c.new-cars.ensures.items ∙ c.cars_near.ensures in
    subst (IsRunnableNear c.args.stretch.first c.args.stretch.end c.args.span.now) (sym c.of.ensures.road)
    (near_runnable c.args.stretch.first c.args.stretch.end c.args.span.now c.args.road.now c.extend_from_slice.new.self.items all are)
