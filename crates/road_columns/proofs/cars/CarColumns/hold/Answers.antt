-- The cars are inserted, the last one first.
use Rattle.std.proofs.Common.{◌≡◌, ◌∙◌, ◌+◌, length, arith, refl}
use Rattle.road_columns.proofs.HeldCars.{put_in_column, put_road}
use Rattle.road_columns.proofs.ShiftedColumns.{closed, closed-behind, closed-front, closed-kept, closed-long}
use Rattle.road_columns.proofs.cars.CarColumns.hold.Goals as goal

pub returns-clause-holds : goal.returns-clause-holds
returns-clause-holds c =
    let inv = c.loop-place.invariant in
    let short = c.args.self.now.short in
    let room = c.requires.room in
    let each = closed-long c.loop-place.self.cells.items (8 + length c.args.cars.now) ∙ c.loop-place.invariant.cells_each in
    record {
      head = refl;
      tail = refl;
      cells_each = each;
    }

pub returns-clause-road : goal.returns-clause-road
returns-clause-road c =
    let inv = c.loop-place.invariant in
    let last : c.loop-place.place ≡ length c.args.cars.now = let test = c.loop-place-test.false in omega arith in
    let room = c.requires.room in
    let each = inv.cells_each in
    let size = closed-long c.loop-place.self.cells.items (8 + length c.args.cars.now) in
    put_road c.args.cars.now (closed c.loop-place.self.cells.items (8 + length c.args.cars.now)) c.loop-place.self.speeds.items c.loop-place.self.numbers.items 8 (8 + length c.args.cars.now) c.requires.rise refl (omega arith)
    (λ i below. closed-kept c.loop-place.self.cells.items (8 + length c.args.cars.now) (8 + i) (λ same. absurd (omega arith)) (λ same. absurd (omega arith)) ∙ inv.cells i (omega arith))
    (λ i below. inv.speeds i (omega arith)) (λ i below. inv.numbers i (omega arith))

pub returns-clause-cars : goal.returns-clause-cars
returns-clause-cars c p few before =
    let inv = c.loop-place.invariant in
    let last : c.loop-place.place ≡ length c.args.cars.now = let test = c.loop-place-test.false in omega arith in
    let room = c.requires.room in
    let each = inv.cells_each in
    let size = closed-long c.loop-place.self.cells.items (8 + length c.args.cars.now) in
    let first = closed-front c.loop-place.self.cells.items (8 + length c.args.cars.now) (omega arith) (omega arith) in
    put_in_column c.args.cars.now (closed c.loop-place.self.cells.items (8 + length c.args.cars.now)) c.loop-place.self.speeds.items c.loop-place.self.numbers.items 8 (8 + length c.args.cars.now) c.requires.rise refl (omega arith)
    (λ i below. closed-kept c.loop-place.self.cells.items (8 + length c.args.cars.now) (8 + i) (λ same. absurd (omega arith)) (λ same. absurd (omega arith)) ∙ inv.cells i (omega arith))
    (λ i below. inv.speeds i (omega arith)) (λ i below. inv.numbers i (omega arith))
    p (omega arith) (omega arith) (omega arith) (closed-behind c.loop-place.self.cells.items (8 + length c.args.cars.now) (omega arith)) before
