-- The values at the places from the head on are now at the first places.
use Rattle.std.proofs.Common.{◌≡◌, ◌∙◌, ◌+◌, ◌-◌, length, slice_index, ap, arith, refl}
use Rattle.road_columns.proofs.Refilled.{refilled}
use Rattle.road_columns.proofs.ShiftedColumns.{cars_shifted, closed, closed-behind, closed-front, closed-kept, closed-long, columns_shifted, places_shifted}
use Rattle.road_columns.proofs.shifting.shift_back.Goals as goal

pub returns-clause-shifts : goal.returns-clause-shifts
returns-clause-shifts c = record {
  head = refl;
  tail = refl;
  cells_each = closed-long c.move_back.new.column.items (8 + (c.args.cars.now.tail - c.args.cars.now.head)) ∙ c.move_back.ensures.long;
}

pub returns-clause-cars : goal.returns-clause-cars
returns-clause-cars c p few cars =
    let from = c.args.cars.now.from in
    let order = c.args.cars.now.order in
    let inside = c.args.cars.now.inside in
    let each = c.move_back.ensures.long in
    let size = closed-long c.move_back.new.column.items (8 + (c.args.cars.now.tail - c.args.cars.now.head)) in
    let first = closed-front c.move_back.new.column.items (8 + (c.args.cars.now.tail - c.args.cars.now.head)) (omega arith) (omega arith) in
    cars_shifted c.args.cars.now.cells.items (closed c.move_back.new.column.items (8 + (c.args.cars.now.tail - c.args.cars.now.head))) c.args.cars.now.head c.args.cars.now.tail 8 (8 + (c.args.cars.now.tail - c.args.cars.now.head)) order refl (omega arith)
    (λ i below. closed-kept c.move_back.new.column.items (8 + (c.args.cars.now.tail - c.args.cars.now.head)) (8 + i) (λ same. absurd (omega arith)) (λ same. absurd (omega arith)) ∙ c.move_back.ensures.moved 0 i below)
    p cars (omega arith) (omega arith) (closed-behind c.move_back.new.column.items (8 + (c.args.cars.now.tail - c.args.cars.now.head)) (omega arith))

pub returns-clause-places : goal.returns-clause-places
returns-clause-places c sites are =
    let from = c.args.cars.now.from in
    let order = c.args.cars.now.order in
    let inside = c.args.cars.now.inside in
    let each = c.move_back.ensures.long in
    let is = refilled c.args.cars.now.places c.deref_mut.result.now c.places_back.new.places c.deref_mut.ensures.value c.places_back.ensures.long in
    let long : length c.deref_mut.result.now ≡ length c.args.cars.now.places.items = ap length c.deref_mut.ensures.value in
    places_shifted c.args.cars.now.cells.items (closed c.move_back.new.column.items (8 + (c.args.cars.now.tail - c.args.cars.now.head))) c.args.cars.now.head c.args.cars.now.tail 8 (8 + (c.args.cars.now.tail - c.args.cars.now.head)) order refl (omega arith)
    (λ i below. closed-kept c.move_back.new.column.items (8 + (c.args.cars.now.tail - c.args.cars.now.head)) (8 + i) (λ same. absurd (omega arith)) (λ same. absurd (omega arith)) ∙ c.move_back.ensures.moved 0 i below)
    sites c.args.cars.now.places.items _ are (ap length is ∙ c.places_back.ensures.long ∙ long) from
    (λ d below. ap (λ xs. slice_index xs d) is ∙ c.places_back.ensures.each d (omega arith) ∙ ap (λ xs. slice_index xs d - (c.args.cars.now.head - 8)) c.deref_mut.ensures.value)

pub returns-clause-road : goal.returns-clause-road
returns-clause-road c a columns =
    let from = c.args.cars.now.from in
    let order = c.args.cars.now.order in
    let inside = c.args.cars.now.inside in
    let each = c.move_back.ensures.long in
    let size = closed-long c.move_back.new.column.items (8 + (c.args.cars.now.tail - c.args.cars.now.head)) in
    columns_shifted c.args.cars.now.cells.items (closed c.move_back.new.column.items (8 + (c.args.cars.now.tail - c.args.cars.now.head))) c.args.cars.now.head c.args.cars.now.tail 8 (8 + (c.args.cars.now.tail - c.args.cars.now.head)) order refl (omega arith)
    (λ i below. closed-kept c.move_back.new.column.items (8 + (c.args.cars.now.tail - c.args.cars.now.head)) (8 + i) (λ same. absurd (omega arith)) (λ same. absurd (omega arith)) ∙ c.move_back.ensures.moved 0 i below)
    a c.args.cars.now.speeds.items c.move_back-2.new.column.items c.args.cars.now.numbers.items c.move_back-3.new.column.items (omega arith) (omega arith)
    (c.move_back-2.ensures.moved 0) (c.move_back-3.ensures.moved 0) columns
