-- The cars advance one after the other, and the array changes as they do.
use Rattle.std.proofs.Common.{◌≡◌, ◌<◌, ◌∙◌, sym, ap, subst, arith, length, slice_set, slice_index, add-one}
use Rattle.std.specs.List.{slice_index_or}
use Rattle.road_cells.specs.Cars.{AreRising, cars_of, cell_at, array_of}
use Rattle.road_rules.specs.Motion.{car_after_motion}
use Rattle.road_rules.proofs.MotionOfCars.{array_after_motion_at-array_of, rise-cars_after_motion, cell_at-end}
use Rattle.road_rules.proofs.MotionLoop.{driven_length, driven_next, one_drives, all_driven, cell_here}
use Rattle.road_rules.proofs.motion.moved_in_place.Goals as goal

pub index_mut-requires : goal.index_mut-requires
index_mut-requires c =
    let long : c.into_cars-cars.result.len ≡ length (cars_of c.args.road) = c.into_cars-cars.result.ok.0 ∙ ap length c.into_cars-cars.ensures.all in
    let items = c.loop-place.cars.ok in
    let many = ap length c.loop-place.invariant.are ∙ driven_length c.args.speeds.now (cars_of c.args.road) c.loop-place.place c.requires.may.one_each in
    omega arith

pub advance-requires : goal.advance-requires
advance-requires c =
    let cars = cars_of c.args.road in
    let place = c.loop-place.place in
    let here = c.index_mut.result.now in
    let long : c.into_cars-cars.result.len ≡ length (cars_of c.args.road) = c.into_cars-cars.result.ok.0 ∙ ap length c.into_cars-cars.ensures.all in
    let below : place < length cars = omega arith in
    let is = c.index_mut.ensures.value ∙ ap (λ xs. slice_index_or xs place here) c.loop-place.invariant.are ∙ driven_next c.args.speeds.now cars place here c.requires.may.one_each in
    let end = cell_at-end 0 c.args.road place below in
    let low = c.requires.low in
    let cell : here.cell ≡ cell_at cars place = sym (cell_here cars place here below is) in
    omega arith

pub loop-place-preserved : goal.loop-place-preserved
loop-place-preserved c =
    let cars = cars_of c.args.road in
    let speeds = c.args.speeds.now in
    let place = c.loop-place.place in
    let here = c.index_mut.result.now in
    let long : c.into_cars-cars.result.len ≡ length (cars_of c.args.road) = c.into_cars-cars.result.ok.0 ∙ ap length c.into_cars-cars.ensures.all in
    let below : place < length cars = omega arith in
    let is = c.index_mut.ensures.value ∙ ap (λ xs. slice_index_or xs place here) c.loop-place.invariant.are ∙ driven_next speeds cars place here c.requires.may.one_each in
    record {
      within = omega arith;
      are = rw add-one (ap (slice_set c.loop-place.cars.items place) (c.advance.ensures ∙ ap (car_after_motion (slice_index speeds place)) is) ∙ ap (λ xs. slice_set xs place (car_after_motion (slice_index speeds place) (slice_index_or cars place here))) c.loop-place.invariant.are ∙ one_drives speeds cars place here c.requires.may.one_each below);
    }

pub of-requires : goal.of-requires
of-requires c =
    let long : c.into_cars-cars.result.len ≡ length (cars_of c.args.road) = c.into_cars-cars.result.ok.0 ∙ ap length c.into_cars-cars.ensures.all in
    let done = c.loop-place.invariant.are ∙ all_driven c.args.speeds.now (cars_of c.args.road) c.loop-place.place c.requires.may.one_each (omega arith) in
    subst AreRising (sym done) (rise-cars_after_motion c.args.road c.args.speeds.now c.requires.may)

pub returns-clause-motion : goal.returns-clause-motion
returns-clause-motion c =
    let long : c.into_cars-cars.result.len ≡ length (cars_of c.args.road) = c.into_cars-cars.result.ok.0 ∙ ap length c.into_cars-cars.ensures.all in
    let done = c.loop-place.invariant.are ∙ all_driven c.args.speeds.now (cars_of c.args.road) c.loop-place.place c.requires.may.one_each (omega arith) in
    c.of.ensures.road ∙ ap array_of done ∙ sym (array_after_motion_at-array_of c.args.road c.args.speeds.now c.requires.may)

pub returns-clause-cars : goal.returns-clause-cars
returns-clause-cars c =
    let long : c.into_cars-cars.result.len ≡ length (cars_of c.args.road) = c.into_cars-cars.result.ok.0 ∙ ap length c.into_cars-cars.ensures.all in
    c.of.ensures.cars ∙ c.loop-place.invariant.are ∙ all_driven c.args.speeds.now (cars_of c.args.road) c.loop-place.place c.requires.may.one_each (omega arith)
