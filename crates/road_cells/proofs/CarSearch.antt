-- What a binary search among cars in rising cells finds.
use Rattle.std.specs.Prelude.{◌≡◌, ℕ, ◌<◌, ◌≤◌, List, length}
use Rattle.std.specs.List.{slice_index_or}
use Rattle.std.specs.List.Sorted.{IsNonDecreasingBy, IsPartitionPoint}
use Rattle.std.specs.Ordering.{nat_cmp, ordering_index}
use Rattle.std.specs.Option.{option_map}
use Rattle.std.specs.declared.cmp.Ordering.TheVariants.{Less, Equal, Greater}
use Rattle.std.specs.declared.option.Option.TheVariants.{None, Some}
use Rattle.std.proofs.Common.{sym, ap, ◌∙◌, arith, inl, inr}
use Rattle.std.proofs.lemmas.Bool.{cases_lt}
use Rattle.std.proofs.lemmas.Bool.Decides.{nat_tests}
use Rattle.std.proofs.lemmas.List.Sorted.{IsNonDecreasingBy-from_default}
use Rattle.road_cells.specs.Array.{vehicle_at}
use Rattle.road_cells.specs.Cars.{AreRising, array_of, vehicle_among, vehicle_of, car_of, cell_at}
use Rattle.road_cells.proofs.CarLists.{vehicle_at-array_of}
use Rattle.road_cells.proofs.CarPlaces.{rise-at, vehicle_among-absent, vehicle_among-at}
use Rattle.road_cells.specs.declared.car.Car.{Car}

-- a default for a car that is not in the list
abbrev nobody : Car
nobody = car_of 0 (record { number = 0; speed = 0 })

module _ (cars : List Car) (cell : ℕ) (rise : AreRising cars) where
  -- the answers of comparing the cars' cells with this cell rise along the list
  pub answers_rise : IsNonDecreasingBy (λ car. ordering_index (nat_cmp car.cell cell)) cars
  answers_rise = IsNonDecreasingBy-from_default (λ car. ordering_index (nat_cmp car.cell cell)) cars nobody (λ i j le below. elim (cases_lt i j) as (λ _. ordering_index (nat_cmp (cell_at cars i) cell) ≤ ordering_index (nat_cmp (cell_at cars j) cell)) [
    | inl lt ↦ let further = rise-at 0 cars i j rise lt below in grind (arith, nat_tests)
    | inr ge ↦ let same : i ≡ j = omega arith in let cells = ap (λ k. ordering_index (nat_cmp (cell_at cars k) cell)) same in omega arith
  ])

  -- the car that was found is at the cell
  pub found : (place : ℕ) (car : Car) → place < length cars → ((d : Car) → nat_cmp (slice_index_or cars place d).cell cell ≡ Equal) → car ≡ slice_index_or cars place car → Some car ≡ option_map (car_of cell) (vehicle_at (array_of cars) cell)
  found place car in_list equal is =
      let at : cell_at cars place ≡ cell = (let test = equal nobody in grind (arith, nat_tests)) in
      let mine : car.cell ≡ cell = (let test = equal car in let same = ap (λ x. x.cell) is in grind (arith, nat_tests)) in
      (λ i. Some (record { number = car.number; cell = mine i; speed = car.speed }))
      ∙ ap (option_map (car_of cell)) (ap (λ x. Some (vehicle_of x)) is ∙ sym (vehicle_among-at 0 cars place car rise in_list) ∙ ap (λ c. vehicle_among c cars) at ∙ sym (vehicle_at-array_of cars cell))

  -- the cell is empty if no car was found
  pub not_found : (gap : ℕ) → IsPartitionPoint (λ car. nat_cmp car.cell cell ≡ Less) (λ car. nat_cmp car.cell cell ≡ Greater) cars gap → None ≡ option_map (car_of cell) (vehicle_at (array_of cars) cell)
  not_found gap point = ap (option_map (car_of cell)) (sym (vehicle_among-absent cars cell apart) ∙ sym (vehicle_at-array_of cars cell))
    where
      apart : (i : ℕ) → i < length cars → cell_at cars i ≡ cell → ⊥
      apart i below same = elim (cases_lt i gap) as (λ _. ⊥) [
        | inl before ↦ let test : nat_cmp (cell_at cars i) cell ≡ Less = point.0 i nobody (omega arith) before in grind (arith, nat_tests)
        | inr after ↦ let test : nat_cmp (cell_at cars i) cell ≡ Greater = point.1 i nobody after below in grind (arith, nat_tests)
      ]
