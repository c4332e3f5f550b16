-- Each turn takes one more car out, so all are taken out at the end.
use Rattle.std.proofs.Common.{◌≡◌, ◌∙◌, ◌+◌, ◌-◌, ◌++◌, suc, sym, ap, subst, slice_index, arith}
use Rattle.std.proofs.lemmas.List.{append-nil, get_or_read}
use Rattle.road_cells.specs.Cars.{AreRising, array_of}
use Rattle.road_columns.specs.Private.CarsAt.{from_place}
use Rattle.road_columns.specs.Private.Held.{cars_held}
use Rattle.road_columns.proofs.HeldCars.{held_more, held_rise}
use Rattle.road_columns.proofs.cars.CarColumns.road.Goals as goal

pub loop-place-preserved : goal.loop-place-preserved
loop-place-preserved c =
    let inv = c.loop-place.invariant in
    let from = c.loop-place.invariant.from in
    let to = c.loop-place.invariant.to in
    let some = c.loop-place-test.true in
    let one : c.loop-place.place - c.args.self.now.head ≡ suc (c.loop-place.place - 1 - c.args.self.now.head) = omega arith in
    let here : c.args.self.now.head + (c.loop-place.place - 1 - c.args.self.now.head) ≡ c.loop-place.place - 1 = omega arith in
    let inside = c.args.self.now.inside in
    let speeds_each = c.args.self.now.speeds_each in
    let numbers_each = c.args.self.now.numbers_each in
    let number = sym (get_or_read c.args.self.now.numbers.items (c.loop-place.place - 1) c.index.result.now (omega arith) c.index.ensures 0) in
    let cell = sym (get_or_read c.args.self.now.cells.items (c.loop-place.place - 1) c.index-in-loop-place.result.now (omega arith) c.index-in-loop-place.ensures 0) in
    let speed = sym (get_or_read c.args.self.now.speeds.items (c.loop-place.place - 1) c.index-in-loop-place-2.result.now (omega arith) c.index-in-loop-place-2.ensures 0) in
    record {
      from = omega arith;
      to = omega arith;
      all = ap (λ xs. xs ++ cars_held (from_place c.args.self.now.cells.items c.args.self.now.head) (from_place c.args.self.now.speeds.items c.args.self.now.head) (from_place c.args.self.now.numbers.items c.args.self.now.head) (c.loop-place.place - 1 - c.args.self.now.head)) c.in_ok-push.ensures.items
          ∙ held_more (from_place c.args.self.now.cells.items c.args.self.now.head) (from_place c.args.self.now.speeds.items c.args.self.now.head) (from_place c.args.self.now.numbers.items c.args.self.now.head) (c.loop-place.place - c.args.self.now.head) (c.loop-place.place - 1 - c.args.self.now.head) c.loop-place.cars.items _ one
          (λ i. record { number = (ap (slice_index c.args.self.now.numbers.items) here ∙ number ∙ sym c.from.ensures) i; cell = (ap (slice_index c.args.self.now.cells.items) here ∙ cell ∙ sym c.from-in-loop-place.ensures) i; speed = (ap (slice_index c.args.self.now.speeds.items) here ∙ speed) i })
          ∙ inv.all;
    }

pub of-requires : goal.of-requires
of-requires c =
    let inv = c.loop-place.invariant in
    let from = c.loop-place.invariant.from in
    let test = c.loop-place-test.false in
    let none : c.loop-place.place - c.args.self.now.head ≡ 0 = omega arith in
    subst AreRising
    (sym (sym (append-nil c.loop-place.cars.items) ∙ sym (ap (λ k. c.loop-place.cars.items ++ cars_held (from_place c.args.self.now.cells.items c.args.self.now.head) (from_place c.args.self.now.speeds.items c.args.self.now.head) (from_place c.args.self.now.numbers.items c.args.self.now.head) k) none) ∙ inv.all))
    (held_rise c.args.self.now.cells.items c.args.self.now.speeds.items c.args.self.now.numbers.items c.args.self.now.head c.args.self.now.tail c.requires.falling)

pub returns : goal.returns
returns c =
    let inv = c.loop-place.invariant in
    let from = c.loop-place.invariant.from in
    let test = c.loop-place-test.false in
    let none : c.loop-place.place - c.args.self.now.head ≡ 0 = omega arith in
    c.of.ensures.road
    ∙ ap array_of (sym (append-nil c.loop-place.cars.items) ∙ sym (ap (λ k. c.loop-place.cars.items ++ cars_held (from_place c.args.self.now.cells.items c.args.self.now.head) (from_place c.args.self.now.speeds.items c.args.self.now.head) (from_place c.args.self.now.numbers.items c.args.self.now.head) k) none) ∙ inv.all)
