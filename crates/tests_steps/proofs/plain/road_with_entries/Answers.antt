use Rattle.std.proofs.Common.{ℕ, Vec, Global, ◌+◌, ◌∙◌, ◌++◌, ◌<◌, ◌≤◌, sym, ap, subst, arith, length, map}
use Rattle.std.specs.List.{range_with_len}
use Rattle.std.specs.Option.{option_or}
use Rattle.road_cells.specs.Array.{vehicle_at}
use Rattle.road_cells.proofs.ArrayPlaces.{length-array}
use Rattle.road_cells.specs.Cars.{array_of, AreRising}
use Rattle.road_cells.proofs.CarLists.{rise-cars_from, array_of-cars_from}
use Rattle.road_cells.specs.declared.car.Car.{Car}
use Rattle.road_ends.specs.Entries.{entry_at}
use Rattle.road_ends.proofs.StepByCars.{cars_left, one_here, nobody_here, all_here, all_left}
use Rattle.tests_steps.proofs.plain.road_with_entries.Goals as goal
use Rattle.tests_steps.proofs.plain.road_with_entries.Goals.{in-Some+in_ok-push-in-Some, in-None}

pub loop-cell-init : goal.loop-cell-init
loop-cell-init c =
    let f = λ (c' : ℕ). option_or (vehicle_at c.args.road.now c') (entry_at c.args.plan.now c.args.settings.now c.args.step c') in
    ap (λ cars. cars ++ cars_left f c.args.plan.now.cells 0) c.new-cars.ensures.items ∙ all_left f c.args.plan.now.cells

pub loop-cell-preserved : goal.loop-cell-preserved
loop-cell-preserved c =
    let f = λ (c' : ℕ). option_or (vehicle_at c.args.road.now c') (entry_at c.args.plan.now c.args.settings.now c.args.step c') in
    let below : c.loop-cell.cell < c.args.plan.now.cells = let end = c.length-cell-end.ensures.cells in let test = c.loop-cell-test.true in omega arith in
    elim c.match-car_or_entry_at.branch [
      | in-Some+in_ok-push-in-Some w ↦ one_here f c.args.plan.now.cells c.loop-cell.cell c.loop-cell.cars.items c.match-car_or_entry_at.cars.items _ w.in-Some.car below w.in-Some.ensures (ap (λ v. v.items) w.cars-is ∙ w.in_ok-push-in-Some.ensures.items) c.loop-cell.invariant
      | in-None w ↦ ap (λ (cars : Vec Car Global). cars.items ++ cars_left f c.args.plan.now.cells (c.loop-cell.cell + 1)) w.cars-is ∙ nobody_here f c.args.plan.now.cells c.loop-cell.cell c.loop-cell.cars.items _ below w.in-None.ensures c.loop-cell.invariant
    ]

pub of-requires : goal.of-requires
of-requires c =
    let f = λ (c' : ℕ). option_or (vehicle_at c.args.road.now c') (entry_at c.args.plan.now c.args.settings.now c.args.step c') in
    let past : c.args.plan.now.cells ≤ c.loop-cell.cell = let end = c.length-cell-end.ensures.cells in let test = c.loop-cell-test.false in omega arith in
    subst AreRising (sym (all_here f c.args.plan.now.cells c.loop-cell.cell c.loop-cell.cars.items _ past c.loop-cell.invariant)) (rise-cars_from 0 (map f (range_with_len 0 c.args.plan.now.cells)))

pub returns-clause-moving : goal.returns-clause-moving
returns-clause-moving c =
    let f = λ (c' : ℕ). option_or (vehicle_at c.args.road.now c') (entry_at c.args.plan.now c.args.settings.now c.args.step c') in
    let past : c.args.plan.now.cells ≤ c.loop-cell.cell = let end = c.length-cell-end.ensures.cells in let test = c.loop-cell-test.false in omega arith in
    c.of.ensures.road ∙ ap array_of (all_here f c.args.plan.now.cells c.loop-cell.cell c.loop-cell.cars.items _ past c.loop-cell.invariant) ∙ array_of-cars_from c.args.plan.now.cells f

pub returns-clause-on_road : goal.returns-clause-on_road
returns-clause-on_road c =
    let f = λ (c' : ℕ). option_or (vehicle_at c.args.road.now c') (entry_at c.args.plan.now c.args.settings.now c.args.step c') in
    let past : c.args.plan.now.cells ≤ c.loop-cell.cell = let end = c.length-cell-end.ensures.cells in let test = c.loop-cell-test.false in omega arith in
    subst (λ a. length a ≤ c.args.plan.now.cells)
    (sym (c.of.ensures.road ∙ ap array_of (all_here f c.args.plan.now.cells c.loop-cell.cell c.loop-cell.cars.items _ past c.loop-cell.invariant) ∙ array_of-cars_from c.args.plan.now.cells f))
    (length-array c.args.plan.now.cells f)
