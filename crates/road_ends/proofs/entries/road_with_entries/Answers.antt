-- The cars up to the next inlet and the car there are those of the road with its entries.
use Rattle.std.proofs.Common.{Vec, Global, ◌≡◌, ◌+◌, ◌∙◌, ◌++◌, ◌<◌, ◌≤◌, sym, ap, subst, arith, length, map, List}
use Rattle.std.specs.List.{position, range_with_len}
use Rattle.std.specs.Prelude.{nat_eq, None}
use Rattle.road_cells.specs.Array.{array, vehicle_at}
use Rattle.road_cells.specs.Cars.{array_of, AreRising}
use Rattle.road_cells.proofs.ArrayPlaces.{length-array}
use Rattle.road_cells.proofs.CarLists.{rise-cars_from, array_of-cars_from}
use Rattle.road_cells.specs.declared.car.Car.{Car}
use Rattle.road_ends.specs.EntriesBetween.{with_entry}
use Rattle.road_ends.proofs.StepByCars.{cars_left, one_here, nobody_here, all_here, all_left}
use Rattle.road_ends.proofs.CellsBetweenInlets.{cars_up_to, nobody_past, nobody_enters}
use Rattle.road_ends.proofs.entries.road_with_entries.Goals as goal
use Rattle.road_ends.proofs.entries.road_with_entries.Goals.{then-inlet-end+in-Some+in_ok-push-in-Some, then-inlet-end+in-None, else-inlet-end}

pub loop-cell-init : goal.loop-cell-init
loop-cell-init c =
    let f = with_entry c.args.at.plan.now c.args.at.settings.now c.args.at.step c.args.road.now in
    ap (λ cars. cars ++ cars_left f c.length-end.result 0) c.in_ok-cars.ensures.items ∙ all_left f c.length-end.result

pub loop-cell-preserved : goal.loop-cell-preserved
loop-cell-preserved c =
    let a = c.args.road.now in
    let f = with_entry c.args.at.plan.now c.args.at.settings.now c.args.at.step a in
    let n = c.length-end.result in
    let inlet = c.next_inlet-inlet.result in
    let cars = c.extend_from_slice.new.self.items in
    let copied = cars_up_to f (vehicle_at a) n c.loop-cell.cell inlet c.loop-cell.cars.items cars _ c.next_inlet-inlet.ensures.from c.next_inlet-inlet.ensures.within
    (λ cell low high. nobody_enters c.args.at.plan.now c.args.at.settings.now c.args.at.step a cell (subst (λ inlets. position (λ x. nat_eq cell x.0) inlets ≡ None) c.inlets-inlets.ensures.inlets (c.next_inlet-inlet.ensures.first cell low high)))
    (c.in_ok-extend_from_slice.ensures.items ∙ ap (λ (xs : List Car). c.loop-cell.cars.items ++ xs) c.between.ensures)
    c.loop-cell.invariant in
    elim c.if-inlet-end.branch [
      | then-inlet-end+in-Some+in_ok-push-in-Some w ↦
          let below : inlet < n = let test = w.if-inlet-end.true in omega arith in
          one_here f n inlet cars c.if-inlet-end.cars.items _ w.in-Some.car below (sym w.in-Some.is ∙ w.car_or_entry_at.ensures) (ap (λ (v : Vec Car Global). v.items) w.cars-is ∙ w.in_ok-push-in-Some.ensures.items) copied
      | then-inlet-end+in-None w ↦
          let below : inlet < n = let test = w.if-inlet-end.true in omega arith in
          ap (λ (v : Vec Car Global). v.items ++ cars_left f n (inlet + 1)) w.cars-is ∙ nobody_here f n inlet cars _ below (sym w.in-None.is ∙ w.car_or_entry_at.ensures) copied
      | else-inlet-end w ↦
          let past : n ≤ inlet = let test = w.if-inlet-end.false in omega arith in
          ap (λ (v : Vec Car Global). v.items ++ cars_left f n (inlet + 1)) w.cars-is ∙ nobody_past f n inlet cars _ past copied
    ]

pub of-requires : goal.of-requires
of-requires c =
    let f = with_entry c.args.at.plan.now c.args.at.settings.now c.args.at.step c.args.road.now in
    let n = c.length-end.result in
    let past : n ≤ c.loop-cell.cell = let test = c.loop-cell-test.false in omega arith in
    subst AreRising (sym (all_here f n c.loop-cell.cell c.loop-cell.cars.items _ past c.loop-cell.invariant)) (rise-cars_from 0 (map f (range_with_len 0 n)))

pub returns-clause-moving : goal.returns-clause-moving
returns-clause-moving c =
    let p = c.args.at.plan.now in
    let s = c.args.at.settings.now in
    let f = with_entry p s c.args.at.step c.args.road.now in
    let n = c.length-end.result in
    let past : n ≤ c.loop-cell.cell = let test = c.loop-cell-test.false in omega arith in
    c.of.ensures.road ∙ ap array_of (all_here f n c.loop-cell.cell c.loop-cell.cars.items _ past c.loop-cell.invariant)
    ∙ array_of-cars_from n f ∙ ap (λ n. array n f) c.length-end.ensures.cells

pub returns-clause-on_road : goal.returns-clause-on_road
returns-clause-on_road c =
    let p = c.args.at.plan.now in
    let f = with_entry p c.args.at.settings.now c.args.at.step c.args.road.now in
    subst (λ a. length a ≤ p.cells) (sym (returns-clause-moving c)) (let long = length-array p.cells f in omega arith)
