-- The row with its blocks and cars marked is a text, and that of the road.
use Rattle.std.proofs.Common.{◌≡◌, ℕ, Vec, Global, Result, Ok, ◌<◌, ◌≤◌, ◌∙◌, length, slice_index, sym, ap, subst, arith}
use Rattle.std.specs.Prelude.{IfOk}
use Rattle.std.specs.List.{All}
use Rattle.std.specs.String.{string_vec}
use Rattle.std.specs.Vec.{with_items}
use Rattle.std.specs.declared.string.String.{String}
use Rattle.std.proofs.lemmas.Str.{IsUtf8-from_ascii}
use Rattle.std.proofs.lemmas.Str.Ascii.{IsAscii-from_all}
use Rattle.road_ends.specs.Row.{row_of}
use Rattle.road_detector.proofs.MarkedRow.{from_cars, row_small}
use Rattle.road_columns.specs.Private.Cars.{road_of}
use Rattle.road_columns.proofs.Refilled.{refilled}
use Rattle.road_columns.proofs.RowsMarked.{digits_of, row_marked}
use Rattle.road_columns.proofs.row_text.text_of.Goals as goal

-- a fact about an accepted text is a fact about its bytes
told : {E : Type 0} (r : Result (String Global) E) (text : String Global) (bytes : Vec ℕ Global) → r ≡ Ok text → IfOk r (λ t. string_vec t ≡ bytes) → string_vec text ≡ bytes
told r text bytes is ok = subst (λ r. IfOk r (λ t. string_vec t ≡ bytes)) is ok

pub mark_cars-requires-clause-digits : goal.mark_cars-requires-clause-digits
mark_cars-requires-clause-digits c =
    let cars = c.args.cars.now in
    let within : cars.tail ≤ length cars.cells.items = let inside = c.requires.cars.inside in omega arith in
    digits_of cars.cells.items cars.speeds.items cars.numbers.items cars.head cars.tail c.requires.cars.falling within c.requires.speeds c.deref.result.now c.deref-2.result.now c.deref.ensures.value c.deref-2.ensures.value
    (from_cars 0 (road_of cars) c.requires.digits)

pub unwrap-requires : goal.unwrap-requires
unwrap-requires c =
    let cars = c.args.cars.now in
    let within : cars.tail ≤ length cars.cells.items = let inside = c.requires.cars.inside in omega arith in
    let row = c.mark_cars.new.row in
    let is = row_marked cars.cells.items cars.speeds.items cars.numbers.items cars.head cars.tail c.requires.cars.falling within c.requires.speeds c.deref.result.now c.deref-2.result.now c.deref.ensures.value c.deref-2.ensures.value
    c.args.blocks.now c.in_ok-row.row.items c.deref_mut.result.now row c.length.result (c.in_ok-row.ensures.items_if_clones_equal (λ y e. e))
    (ap length c.deref_mut.ensures.value ∙ c.with_blocks-row.ensures.same_length) (λ x below. ap (λ xs. slice_index xs x) c.deref_mut.ensures.value ∙ c.with_blocks-row.ensures.marked x below)
    c.mark_cars.ensures.long c.mark_cars.ensures.cars c.mark_cars.ensures.rest in
    let filled = refilled c.with_blocks-row.result c.deref_mut.result.now row c.deref_mut.ensures.value c.mark_cars.ensures.long in
    c.from_utf8.ensures.succeeds (IsUtf8-from_ascii _ (IsAscii-from_all _ (subst (All (λ (b : ℕ). b < 128)) (sym (filled ∙ is)) (row_small c.args.blocks.now (road_of cars) c.length.result (from_cars 0 (road_of cars) c.requires.digits)))))

pub returns : goal.returns
returns c =
    let cars = c.args.cars.now in
    let within : cars.tail ≤ length cars.cells.items = let inside = c.requires.cars.inside in omega arith in
    let row = c.mark_cars.new.row in
    let is = row_marked cars.cells.items cars.speeds.items cars.numbers.items cars.head cars.tail c.requires.cars.falling within c.requires.speeds c.deref.result.now c.deref-2.result.now c.deref.ensures.value c.deref-2.ensures.value
    c.args.blocks.now c.in_ok-row.row.items c.deref_mut.result.now row c.length.result (c.in_ok-row.ensures.items_if_clones_equal (λ y e. e))
    (ap length c.deref_mut.ensures.value ∙ c.with_blocks-row.ensures.same_length) (λ x below. ap (λ xs. slice_index xs x) c.deref_mut.ensures.value ∙ c.with_blocks-row.ensures.marked x below)
    c.mark_cars.ensures.long c.mark_cars.ensures.cars c.mark_cars.ensures.rest in
    let filled = refilled c.with_blocks-row.result c.deref_mut.result.now row c.deref_mut.ensures.value c.mark_cars.ensures.long in
    let text = told c.from_utf8.result c.unwrap.result (with_items c.with_blocks-row.result row) c.unwrap.ensures c.from_utf8.ensures.ok in
    ap (λ (v : Vec ℕ Global). v.items) text ∙ filled ∙ is ∙ ap (λ n. row_of n c.args.blocks.now (road_of cars)) c.length.ensures.cells
