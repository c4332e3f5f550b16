-- One more car is marked.
use Rattle.std.proofs.Common.{◌≡◌, ℕ, Vec, Global, ◌+◌, ◌<◌, ◌≤◌, ◌∙◌, ap, arith, length, drop}
use Rattle.std.specs.Prelude.{slice_index}
use Rattle.std.specs.List.{slice_index_or}
use Rattle.std.proofs.lemmas.List.{length-set, get_or_default}
use Rattle.road_cells.specs.Cars.{vehicle_among}
use Rattle.road_cells.specs.declared.car.Car.{Car}
use Rattle.road_ends.specs.declared.letters.TheConstants.{STANDING}
use Rattle.road_detector.specs.Rows.{car_letter}
use Rattle.road_detector.proofs.MarkedRow.{next_drawn, next_past}
use Rattle.road_detector.proofs.rows.with_cars.Goals as goal
use Rattle.road_detector.proofs.rows.with_cars.Goals.{then-car-len, else-car-len}

pub loop-car-preserved : goal.loop-car-preserved
loop-car-preserved c =
    let cars = c.args.cars.now in
    let i = c.loop-car.car-index in
    let row = c.loop-car.row.items in
    let nobody : Car = record { number = 0; cell = 0; speed = 0 } in
    let car = slice_index_or cars i nobody in
    let is : slice_index_or cars i car ≡ car = get_or_default cars i car nobody c.loop-car-test.true in
    let same = c.loop-car.invariant.same_length in
    let len = c.len.ensures in
    let full = c.loop-car.row.ok in
    elim c.if-car-len.branch [
      | then-car-len w ↦
          let on : car.cell < length row = let test = w.if-car-len.true in omega arith in
          let items = ap (λ (v : Vec ℕ Global). v.items) w.row-is in
          record {
            same_length = ap length items ∙ length-set row car.cell (STANDING + car.speed) ∙ same;
            marked = λ cell below.
                ap (λ row. car_letter (vehicle_among cell (drop (i + 1) cars)) (slice_index row cell)) items
                ∙ next_drawn cars i cell _ car c.requires.rise c.loop-car-test.true is row (omega arith) on (c.loop-car.invariant.marked cell below);
          }
      | else-car-len w ↦
          let past : length row ≤ car.cell = let test = w.if-car-len.false in omega arith in
          let items = ap (λ (v : Vec ℕ Global). v.items) w.row-is in
          record {
            same_length = ap length items ∙ same;
            marked = λ cell below.
                ap (λ row. car_letter (vehicle_among cell (drop (i + 1) cars)) (slice_index row cell)) items
                ∙ next_past cars i cell _ car c.requires.rise c.loop-car-test.true is row (omega arith) past (c.loop-car.invariant.marked cell below);
          }
    ]
