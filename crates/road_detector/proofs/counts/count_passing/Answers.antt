-- A count has the cars so far that pass, and no sum overflows.
use Rattle.std.proofs.Common.{◌≡◌, ◌+◌, ◌<◌, ◌≤◌, ◌∙◌, sym, ap, arith, length, sum}
use Rattle.std.specs.Prelude.{slice_index}
use Rattle.road_cells.proofs.CarPlaces.{length-cars_from}
use Rattle.road_detector.specs.Passes.{drives, totals_of}
use Rattle.road_detector.specs.declared.counts.Totals.{Totals}
use Rattle.road_detector.proofs.CarsPassing.{counts_one, nobody_left, one_stays}
use Rattle.road_detector.proofs.counts.count_passing.Goals as goal
use Rattle.road_detector.proofs.counts.count_passing.Goals.{then-is_passing, else-is_passing}

pub overflow_add-totals : goal.overflow_add-totals
overflow_add-totals c =
    let few = c.loop-place.invariant.few in
    let below = c.loop-place-test.true in
    let all = ap length c.cars-cars.ensures.all in
    let most = length-cars_from 0 c.args.road.now in
    let short = c.requires.short in
    omega arith

pub overflow_add-totals-then-is_passing : goal.overflow_add-totals-then-is_passing
overflow_add-totals-then-is_passing c =
    let few = c.loop-place.invariant.few in
    let slow = c.loop-place.invariant.slow in
    let below = c.loop-place-test.true in
    let all = ap length c.cars-cars.ensures.all in
    let most = length-cars_from 0 c.args.road.now in
    let short = c.requires.short in
    let byte = (c.type_inv.speeds c.loop-place.place).fits in
    let is = c.from.ensures in
    omega arith

pub loop-place-preserved : goal.loop-place-preserved
loop-place-preserved c =
    let cars = c.cars-cars.result.now in
    let speeds = c.args.speeds.now in
    let place = c.loop-place.place in
    let one : length speeds ≡ length cars = c.requires.one_each ∙ ap length (sym c.cars-cars.ensures.all) in
    let below : place < length cars = c.loop-place-test.true in
    let so_far = c.loop-place.invariant.cars in
    let sum_so_far = c.loop-place.invariant.speeds in
    let few = c.loop-place.invariant.few in
    let slow = c.loop-place.invariant.slow in
    elim c.if-is_passing.branch [
      | then-is_passing w ↦
          let counts = counts_one c.args.site cars speeds one place below (sym c.is_passing.ensures ∙ w.if-is_passing.true) in
          let more = counts.0 in
          let faster = counts.1 in
          let cars_now = ap (λ (t : Totals). t.cars) w.totals-is in
          let speeds_now = ap (λ (t : Totals). t.speeds) w.totals-is in
          let is = w.from.ensures in
          let byte = (c.type_inv.speeds place).fits in
          record { cars = omega arith; speeds = omega arith; few = omega arith; slow = omega arith }
      | else-is_passing w ↦
          let same = one_stays c.args.site cars speeds one place below (sym c.is_passing.ensures ∙ w.if-is_passing.false) in
          let as_many = ap length same in
          let as_fast = ap sum same in
          let cars_now = ap (λ (t : Totals). t.cars) w.totals-is in
          let speeds_now = ap (λ (t : Totals). t.speeds) w.totals-is in
          record { cars = omega arith; speeds = omega arith; few = omega arith; slow = omega arith }
    ]

pub returns : goal.returns
returns c =
    let cars = c.cars-cars.result.now in
    let speeds = c.args.speeds.now in
    let place = c.loop-place.place in
    let one : length speeds ≡ length cars = c.requires.one_each ∙ ap length (sym c.cars-cars.ensures.all) in
    let past : length cars ≤ place = let test = c.loop-place-test.false in omega arith in
    let none = nobody_left c.args.site cars speeds one place past in
    let no_cars = ap length none in
    let no_speeds = ap sum none in
    let all_cars = c.loop-place.invariant.cars in
    let all_speeds = c.loop-place.invariant.speeds in
    let totals = totals_of c.args.site (drives cars speeds) in
    let cars_are : c.loop-place.totals.cars ≡ totals.cars = omega arith in
    let speeds_are : c.loop-place.totals.speeds ≡ totals.speeds = omega arith in
    (λ i. record { cars = cars_are i; speeds = speeds_are i }) ∙ ap (λ cars. totals_of c.args.site (drives cars speeds)) c.cars-cars.ensures.all
