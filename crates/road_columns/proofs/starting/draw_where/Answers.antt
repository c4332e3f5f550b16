-- The words of all cars are what columns need.
use Rattle.std.proofs.Common.{◌*◌, ◌+◌, length, slice_index, slice_range, [], sym, subst, arith}
use Rattle.road_columns.specs.Private.Drawn.{drawn_word}
use Rattle.road_columns.specs.Private.LooseWords.{HaveLooseWords}
use Rattle.road_columns.specs.Private.Rows.{AreWords}
use Rattle.road_columns.proofs.ColumnPlaces.{range_long}
use Rattle.road_columns.proofs.DrawnWords.{drawn_words}
use Rattle.road_columns.proofs.Refilled.{refilled}
use Rattle.road_columns.proofs.starting.draw_where.Goals as goal

pub returns-clause-words : goal.returns-clause-words
returns-clause-words c on kind is_kind k =
    let inside = c.args.cars.now.inside in
    let numbers = c.args.cars.now.numbers_each in
    let cars = c.args.cars.now in
    let is = refilled c.args.rows.now c.deref_mut.result.now c.draw.new.rows c.deref_mut.ensures.value c.draw.ensures.long in
    let many = range_long c.args.cars.now.numbers.items c.args.cars.now.head c.args.cars.now.tail (omega arith) in
    subst (λ rows. HaveLooseWords kind (64 * c.args.interval) (length cars.cells.items + 8) k rows [] cars.head cars.tail cars.cells.items (slice_index cars.numbers.items)) (sym is)
    (drawn_words kind (drawn_word c.args.source) c.args.interval (length c.args.cars.now.cells.items + 8) k c.args.cars.now.cells.items c.args.cars.now.numbers.items c.draw.new.rows c.args.cars.now.head c.args.cars.now.tail is_kind (omega arith) (omega arith) c.requires.falling
    (subst (λ n. AreWords (drawn_word c.args.source) c.args.interval (length cars.cells.items + 8) cars.head (slice_range cars.cells.items cars.head cars.tail) (slice_range cars.numbers.items cars.head cars.tail) n c.draw.new.rows) (sym many) c.draw.ensures.words))
