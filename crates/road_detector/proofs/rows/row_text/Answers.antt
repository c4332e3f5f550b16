-- A row with its blocks and cars marked is valid text, and it is the row of the road.
use Rattle.std.proofs.Common.{◌≡◌, ℕ, Vec, Global, Result, Ok, ◌<◌, ◌∙◌, sym, ap, subst}
use Rattle.std.specs.Prelude.{IfOk}
use Rattle.std.specs.List.{All}
use Rattle.std.specs.String.{string_vec}
use Rattle.std.specs.declared.string.String.{String}
use Rattle.std.proofs.lemmas.Str.{IsUtf8-from_ascii}
use Rattle.std.proofs.lemmas.Str.Ascii.{IsAscii-from_all}
use Rattle.road_detector.specs.Rows.{HaveDigits}
use Rattle.road_detector.proofs.MarkedRow.{made, from_cars, row_small}
use Rattle.road_detector.proofs.rows.row_text.Goals as goal

-- a fact about an accepted text is a fact about its bytes
told : {E : Type 0} (r : Result (String Global) E) (text : String Global) (bytes : Vec ℕ Global) → r ≡ Ok text → IfOk r (λ t. string_vec t ≡ bytes) → string_vec text ≡ bytes
told r text bytes is ok = subst (λ r. IfOk r (λ t. string_vec t ≡ bytes)) is ok

pub with_cars-row-requires-clause-digits : goal.with_cars-row-requires-clause-digits
with_cars-row-requires-clause-digits c = subst HaveDigits (sym c.cars.ensures.all) c.requires

pub unwrap-requires : goal.unwrap-requires
unwrap-requires c =
    let row = c.with_cars-row.result.items in
    let is = made c.args.blocks.now c.args.road.now c.in_ok-row.row.items c.with_blocks-row.result.items row c.cars.result.now c.args.length c.cars.ensures.all
    (c.in_ok-row.ensures.items_if_clones_equal (λ y e. e)) c.with_blocks-row.ensures.same_length c.with_blocks-row.ensures.marked c.with_cars-row.ensures.same_length c.with_cars-row.ensures.marked in
    c.from_utf8.ensures.succeeds (IsUtf8-from_ascii row (IsAscii-from_all row (subst (All (λ (b : ℕ). b < 128)) (sym is) (row_small c.args.blocks.now c.args.road.now c.args.length (from_cars 0 c.args.road.now c.requires)))))

pub returns : goal.returns
returns c =
    let row = c.with_cars-row.result in
    let is = made c.args.blocks.now c.args.road.now c.in_ok-row.row.items c.with_blocks-row.result.items row.items c.cars.result.now c.args.length c.cars.ensures.all
    (c.in_ok-row.ensures.items_if_clones_equal (λ y e. e)) c.with_blocks-row.ensures.same_length c.with_blocks-row.ensures.marked c.with_cars-row.ensures.same_length c.with_cars-row.ensures.marked in
    let text = told c.from_utf8.result c.unwrap.result row c.unwrap.ensures c.from_utf8.ensures.ok in
    ap (λ (v : Vec ℕ Global). v.items) text ∙ is
