-- One more car is marked, on a cell that no car before it has.
use Rattle.std.proofs.Common.{◌≡◌, ◌∙◌, ◌+◌, ◌<◌, length, slice_index, slice_set, sym, ap, arith, inl, inr}
use Rattle.std.proofs.lemmas.Bool.{cases_eq}
use Rattle.std.proofs.lemmas.List.{get_or-set_same, get_or-set_other, length-set}
use Rattle.road_ends.specs.declared.letters.TheConstants.{STANDING}
use Rattle.road_columns.proofs.LooseWords.{fall_to}
use Rattle.road_columns.proofs.row_text.mark_cars.Goals as goal

pub loop-car-preserved : goal.loop-car-preserved
loop-car-preserved c =
    let cells = c.args.cells.now in
    let speeds = c.args.speeds.now in
    let k = c.loop-car.car in
    let row = c.loop-car.row in
    let cell = slice_index cells k in
    let letter = STANDING + slice_index speeds k in
    let here = c.loop-car-test.true in
    let on = c.requires.on_row k here in
    let long = c.loop-car.invariant.long in
    record {
      long = length-set row cell letter ∙ long;
      cars = λ i below. elim (cases_eq i k) as (λ _. slice_index (slice_set row cell letter) (slice_index cells i) ≡ STANDING + slice_index speeds i) [
        | inl same ↦
            ap (λ m. slice_index (slice_set row cell letter) (slice_index cells m)) same
            ∙ get_or-set_same row cell letter 0 (omega arith)
            ∙ ap (λ m. STANDING + slice_index speeds m) (sym same)
        | inr other ↦
            let less : i < k = omega arith in
            let fall = fall_to cells 0 (length cells) i k c.requires.falling (omega arith) (omega arith) (omega arith) in
            get_or-set_other row cell (slice_index cells i) letter 0 (λ same. absurd (omega arith)) ∙ c.loop-car.invariant.cars i less
      ];
      rest = λ x none.
          get_or-set_other row cell x letter 0 (λ same. none k (omega arith) (sym same)) ∙ c.loop-car.invariant.rest x (λ i below. none i (omega arith));
    }
