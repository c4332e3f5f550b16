-- The cars are a part of the column of cells.
use Rattle.std.proofs.Common.{◌∙◌, ◌+◌, ◌-◌, ap, arith, length, slice_index, subst, sym}
use Rattle.std.specs.Prelude.{slice_range}
use Rattle.road_columns.specs.Private.CarsAt.{from_place}
use Rattle.road_columns.specs.Private.LooseWords.{AreFalling}
use Rattle.road_columns.proofs.ColumnPlaces.{falls_in, range_at, range_long, same_place}
use Rattle.road_columns.proofs.cars.CarColumns.place_before.Goals as goal

pub cars_past-requires : goal.cars_past-requires
cars_past-requires c k below =
    let inside = c.args.self.now.inside in
    let long = ap length c.deref.ensures.value in
    let many = range_long c.deref.result.now c.args.self.now.head c.args.self.now.tail (omega arith) in
    falls_in c.deref.result.now c.args.self.now.head c.args.self.now.tail k (subst (λ xs. AreFalling xs c.args.self.now.head c.args.self.now.tail) (sym c.deref.ensures.value) c.requires.falling) (omega arith)

pub returns-clause-place : goal.returns-clause-place
returns-clause-place c =
    let head = c.args.self.now.head in
    let tail = c.args.self.now.tail in
    let cells = c.deref.result.now in
    let inside = c.args.self.now.inside in
    let long = ap length c.deref.ensures.value in
    let many = range_long c.deref.result.now c.args.self.now.head c.args.self.now.tail (omega arith) in
    same_place (length (slice_range cells head tail)) (tail - head) (slice_index (slice_range cells head tail)) (from_place c.args.self.now.cells.items head) c.args.site
    c.cars_past.result (c.args.self.now.head + c.cars_past.result - c.args.self.now.head) (sym many) (omega arith)
    (λ k below. ap (λ xs. from_place xs head k) (sym c.deref.ensures.value) ∙ sym (range_at cells head tail k (omega arith))) c.cars_past.ensures
