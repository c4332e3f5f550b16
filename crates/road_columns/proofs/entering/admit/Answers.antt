-- The turn of an inlet.
use Rattle.std.proofs.Common.{◌≡◌, ◌∙◌, ◌+◌, ◌-◌, ◌*◌, ◌/◌, ◌%◌, ◌<◌, ◌≤◌, ℕ, [], slice_index, sym, ap, subst, arith}
use Rattle.std.proofs.lemmas.List.{get_or_read}
use Rattle.road_columns.specs.Private.Cars.{PutsCar}
use Rattle.road_columns.specs.Private.Entered.{number_with}
use Rattle.road_columns.specs.Private.Entering.{IsPutIn}
use Rattle.road_columns.specs.Private.Interval.{entered_of_words}
use Rattle.road_columns.specs.Private.LooseWords.{AreFalling, HaveLooseWords}
use Rattle.road_columns.proofs.CarsAdmitted.{closed_on, inlet_word, place_to, put_on, put_ready, site_is, taken_on}
use Rattle.road_columns.proofs.entering.admit.Goals as goal

pub returns-then-not-lets_in-clause-entries : goal.returns-then-not-lets_in-clause-entries
returns-then-not-lets_in-clause-entries c a on =
    let g = c.args.layout.now in
    let first = 64 * (c.args.step / 64) in
    let k = c.args.step % 64 in
    let many = c.requires.ready.standing.inlets_each in
    let inlet = c.requires.inlet in
    let read = get_or_read c.args.words.now.inlets.items c.args.inlet c.index.result.now (omega arith) c.index.ensures [] in
    closed_on g first k c.args.inlet c.args.cars.now c.args.words.now c.requires.ready (omega arith) c.requires.inlet c.args.step c.args.stretch.first c.args.stretch.end a on
    (sym (c.lets_in.ensures c.args.step (λ some less. inlet_word g first k c.args.inlet c.args.cars.now c.args.words.now c.requires.ready (omega arith) c.requires.inlet c.args.step (omega arith) c.index.result.now c.index_at.result read c.index_at.ensures))
    ∙ c.if-not-lets_in.true)

pub returns-then-index-cell-clause-entries : goal.returns-then-index-cell-clause-entries
returns-then-index-cell-clause-entries c a on =
    let g = c.args.layout.now in
    let first = 64 * (c.args.step / 64) in
    let k = c.args.step % 64 in
    let cars = c.args.cars.now in
    let site = site_is g first k c.args.inlet cars c.args.words.now c.requires.ready (omega arith) c.requires.inlet in
    let many = c.requires.ready.standing.places_are.as_many in
    let to = place_to g first k c.args.inlet cars c.args.words.now c.requires.ready (omega arith) c.requires.inlet in
    let inside = c.requires.ready.standing.cars_are.inside in
    let place : c.index-2.result.now ≡ slice_index c.args.cars.now.places.items c.args.inlet = get_or_read c.args.cars.now.places.items c.args.inlet c.index-2.result.now (omega arith) c.index-2.ensures 0 in
    let cell : c.index-3.result.now ≡ slice_index c.args.cars.now.cells.items (c.index-2.result.now - 1) = get_or_read c.args.cars.now.cells.items (c.index-2.result.now - 1) c.index-3.result.now (omega arith) c.index-3.ensures 0 in
    taken_on g first k c.args.inlet cars c.args.words.now c.requires.ready (omega arith) c.requires.inlet c.args.step c.args.stretch.first c.args.stretch.end a on
    (ap (λ p. slice_index c.args.cars.now.cells.items (p - 1)) (sym place) ∙ sym cell ∙ c.if-index-cell.true)

pub keep-requires-clause-can : goal.keep-requires-clause-can
keep-requires-clause-can c =
    let g = c.args.layout.now in
    let are = c.requires.ready in
    let inlet = c.requires.inlet in
    let wide = c.width.ensures in
    let short = c.args.cars.now.short in
    let inside = c.requires.ready.standing.cars_are.inside in
    let room = c.requires.ready.room_beside in
    let many = c.requires.ready.standing.places_are.as_many in
    let site = site_is g (64 * (c.args.step / 64)) (c.args.step % 64) c.args.inlet c.args.cars.now c.args.words.now c.requires.ready (omega arith) c.requires.inlet in
    let to = place_to g (64 * (c.args.step / 64)) (c.args.step % 64) c.args.inlet c.args.cars.now c.args.words.now c.requires.ready (omega arith) c.requires.inlet in
    let place : c.index-2.result.now ≡ slice_index c.args.cars.now.places.items c.args.inlet = get_or_read c.args.cars.now.places.items c.args.inlet c.index-2.result.now (omega arith) c.index-2.ensures 0 in
    record {
      rows_each = are.words_are.rows_each ∙ ap (λ n. 64 * n) (sym c.width.ensures);
      short = omega arith;
      order = omega arith;
      within = omega arith;
      room = omega arith;
      entered = are.words_are.entered;
    }

pub returns-clause-ready : goal.returns-clause-ready
returns-clause-ready c =
    let g = c.args.layout.now in
    let kind = c.args.layout.now.plan.now.words in
    let first = 64 * (c.args.step / 64) in
    let k = c.args.step % 64 in
    let cars = c.args.cars.now in
    let words = c.args.words.now in
    let new = c.put.new.self in
    let at = slice_index c.args.layout.now.sites.now c.args.inlet in
    let number = c.args.step * 16 + c.args.inlet in
    let site = site_is g first k c.args.inlet cars c.args.words.now c.requires.ready (omega arith) c.requires.inlet in
    let many = c.requires.ready.standing.places_are.as_many in
    let to = place_to g first k c.args.inlet cars c.args.words.now c.requires.ready (omega arith) c.requires.inlet in
    let inside = c.requires.ready.standing.cars_are.inside in
    let place : c.index-2.result.now ≡ slice_index c.args.cars.now.places.items c.args.inlet = get_or_read c.args.cars.now.places.items c.args.inlet c.index-2.result.now (omega arith) c.index-2.ensures 0 in
    let cell : c.index-3.result.now ≡ slice_index c.args.cars.now.cells.items (c.index-2.result.now - 1) = get_or_read c.args.cars.now.cells.items (c.index-2.result.now - 1) c.index-3.result.now (omega arith) c.index-3.ensures 0 in
    put_ready g first k c.args.inlet cars words c.requires.ready (omega arith) c.requires.inlet new number
    (λ same. c.if-index-cell.false (cell ∙ ap (λ p. slice_index c.args.cars.now.cells.items (p - 1)) place ∙ same))
    (subst (λ p. PutsCar c.args.layout.now.sites.now c.args.cars.now c.put.new.self p (slice_index c.args.layout.now.sites.now c.args.inlet) (c.args.step * 16 + c.args.inlet)) place c.put.ensures)
    c.keep.new.self c.width.result c.width.ensures c.keep.ensures.keeps
    (λ is. subst (λ p. cars.head ≤ p → AreFalling cars.cells.items cars.head cars.tail → IsPutIn cars.cells.items new.cells.items p cars.tail at 0
    → ((q : ℕ) → cars.head ≤ q → q < p → at < slice_index cars.cells.items q) → ((q : ℕ) → p ≤ q → q < cars.tail → slice_index cars.cells.items q < at)
    → HaveLooseWords kind first c.width.result k words.rows.items (entered_of_words words) cars.head cars.tail cars.cells.items (slice_index cars.numbers.items)
    → HaveLooseWords kind first c.width.result k c.keep.new.self.rows.items (entered_of_words c.keep.new.self) cars.head (cars.tail + 1) new.cells.items (number_with p number (slice_index cars.numbers.items))) place
    (c.keep.ensures.words is kind c.requires.ready.standing.source_is cars.head cars.cells.items new.cells.items (slice_index cars.numbers.items) at))

pub returns-clause-entries : goal.returns-clause-entries
returns-clause-entries c a on =
    let g = c.args.layout.now in
    let first = 64 * (c.args.step / 64) in
    let k = c.args.step % 64 in
    let cars = c.args.cars.now in
    let site = site_is g first k c.args.inlet cars c.args.words.now c.requires.ready (omega arith) c.requires.inlet in
    let many = c.requires.ready.standing.places_are.as_many in
    let inlets = c.requires.ready.standing.inlets_each in
    let inlet = c.requires.inlet in
    let to = place_to g first k c.args.inlet cars c.args.words.now c.requires.ready (omega arith) c.requires.inlet in
    let inside = c.requires.ready.standing.cars_are.inside in
    let place : c.index-2.result.now ≡ slice_index c.args.cars.now.places.items c.args.inlet = get_or_read c.args.cars.now.places.items c.args.inlet c.index-2.result.now (omega arith) c.index-2.ensures 0 in
    let cell : c.index-3.result.now ≡ slice_index c.args.cars.now.cells.items (c.index-2.result.now - 1) = get_or_read c.args.cars.now.cells.items (c.index-2.result.now - 1) c.index-3.result.now (omega arith) c.index-3.ensures 0 in
    let read = get_or_read c.args.words.now.inlets.items c.args.inlet c.index.result.now (omega arith) c.index.ensures [] in
    put_on g first k c.args.inlet cars c.args.words.now c.requires.ready (omega arith) c.requires.inlet c.put.new.self (c.args.step * 16 + c.args.inlet)
    (λ same. c.if-index-cell.false (cell ∙ ap (λ p. slice_index c.args.cars.now.cells.items (p - 1)) place ∙ same))
    (subst (λ p. PutsCar c.args.layout.now.sites.now c.args.cars.now c.put.new.self p (slice_index c.args.layout.now.sites.now c.args.inlet) (c.args.step * 16 + c.args.inlet)) place c.put.ensures)
    c.args.step c.args.stretch.first c.args.stretch.end a on
    (sym (c.lets_in.ensures c.args.step (λ some less. inlet_word g first k c.args.inlet c.args.cars.now c.args.words.now c.requires.ready (omega arith) c.requires.inlet c.args.step (omega arith) c.index.result.now c.index_at.result read c.index_at.ensures))
    ∙ c.if-not-lets_in.false)
    (omega arith)
