-- A binary search finds the car at the cell, or none if the cell is empty.
use Rattle.std.proofs.Common.{◌≡◌, ◌<◌, rules, sym, subst, ap, ◌∙◌, length}
use Rattle.std.specs.List.{slice_index_or}
use Rattle.std.specs.Ordering.{nat_cmp}
use Rattle.std.specs.Option.{option_map}
use Rattle.std.specs.declared.cmp.Ordering.TheVariants.{Equal}
use Rattle.std.proofs.lemmas.List.Sorted.{answers_always}
use Rattle.road_cells.specs.Array.{vehicle_at}
use Rattle.road_cells.specs.Cars.{car_of}
use Rattle.road_cells.specs.declared.car.Car.{Car}
use Rattle.road_cells.proofs.CarSearch.{found, not_found, answers_rise}
use Rattle.road_cells.proofs.road.Road.car_at.Goals as goal

pub returns-in-Ok : goal.returns-in-Ok
returns-in-Ok c =
    let facts = c.in-Ok.ensures in
    let cars = c.self.inside.cars.items in
    let equal = facts.position (λ car. car.cell) (answers_always _ _ _ (λ f a r g called. search rules)) in
    found cars c.args.cell c.self.invariant c.in-Ok.place c.index.result.now
    (subst (λ xs. c.in-Ok.place < length xs) c.deref.ensures.value facts.bound)
    (subst (λ xs. (d : Car) → nat_cmp (slice_index_or xs c.in-Ok.place d).cell c.args.cell ≡ Equal) c.deref.ensures.value equal)
    c.index.ensures
    ∙ ap (λ a. option_map (car_of c.args.cell) (vehicle_at a c.args.cell)) c.self.view_is

pub returns-in-Err : goal.returns-in-Err
returns-in-Err c =
    let cars = c.self.inside.cars.items in
    let rise = answers_rise cars c.args.cell c.self.invariant in
    let gap = c.in-Err.ensures.position (λ car. car.cell) (answers_always _ _ _ (λ f a r g called. search rules)) in
    not_found cars c.args.cell c.self.invariant c.in-Err.field-0
    (rw (sym c.deref.ensures.value) (gap (rw c.deref.ensures.value rise)))
    ∙ ap (λ a. option_map (car_of c.args.cell) (vehicle_at a c.args.cell)) c.self.view_is
