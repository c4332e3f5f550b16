-- The list of the cars of columns, and the array that they make.
use Rattle.std.specs.Prelude.{◌≡◌, ◌≢◌, ℕ, zero, suc, ◌+◌, ◌-◌, ◌<◌, ◌≤◌, ◌⊎◌, List, [], ◌∷◌, length}
use Rattle.std.proofs.Common.{sym, ap, ◌∙◌, arith, refl, inl, inr}
use Rattle.std.proofs.lemmas.Bool.{cases_lt, cases_eq}
use Rattle.std.specs.List.{All}
use Rattle.std.specs.declared.option.Option.TheVariants.{Some}
use Rattle.road_cells.specs.Array.{Array, vehicle_at}
use Rattle.road_cells.specs.Cars.{AreRisingFrom, array_of, vehicle_among}
use Rattle.road_cells.specs.declared.car.Car.{Car}
use Rattle.road_cells.proofs.CarLists.{vehicle_at-array_of}
use Rattle.road_cells.proofs.CarPlaces.{vehicle_among-absent, vehicle_among-at}
use Rattle.road_ends.specs.Speed.{nth_car}
use Rattle.road_columns.specs.Columns.{mirrored}
use Rattle.road_columns.specs.Private.CarsAt.{AreCarsAt}
use Rattle.road_columns.specs.Private.Held.{cars_held}

abbrev nobody : Car
nobody = record { number = 0; cell = 0; speed = 0 }

module _ (cell speed number : ℕ → ℕ) where
  pub many_held : (n : ℕ) → length (cars_held cell speed number n) ≡ n
  many_held zero = refl
  many_held (suc m) = ap suc (many_held m)

  pub car_held : (n k : ℕ) → k < n → nth_car (cars_held cell speed number n) k ≡ record { number = number (mirrored n k); cell = cell (mirrored n k); speed = speed (mirrored n k) }
  car_held zero k below = absurd (omega arith)
  car_held (suc m) zero below = let here : m ≡ suc m - (0 + 1) = omega arith in ap (λ i. record { number = number i; cell = cell i; speed = speed i }) here
  car_held (suc m) (suc k) below =
      let here : m - (k + 1) ≡ suc m - (suc k + 1) = omega arith in
      car_held m k (omega arith) ∙ ap (λ i. record { number = number i; cell = cell i; speed = speed i }) here

  pub rise_held : (n k : ℕ) → ((i : ℕ) → i + 1 < n → cell (i + 1) < cell i) → (0 < n → k ≤ cell (n - 1)) → AreRisingFrom k (cars_held cell speed number n)
  rise_held zero k falling from = tt
  rise_held (suc m) k falling from =
      let last : suc m - 1 ≡ m = omega arith in
      let at = ap cell last in (
        let low = from (omega arith) in omega arith,
        rise_held m (cell m + 1) (λ i below. falling i (omega arith)) (λ some.
            let next : (m - 1) + 1 ≡ m = omega arith in
            let there = ap cell next in
            let step = falling (m - 1) (omega arith) in omega arith),
      )

  -- at each cell there is one of the cars, or none of them
  pub find : (n c : ℕ) → ((i : ℕ) × (i < n) × (cell i ≡ c)) ⊎ ((i : ℕ) → i < n → cell i ≢ c)
  find zero c = inr (λ i below. absurd (omega arith))
  find (suc m) c = elim (cases_eq (cell m) c) as (λ _. ((i : ℕ) × (i < suc m) × (cell i ≡ c)) ⊎ ((i : ℕ) → i < suc m → cell i ≢ c)) [
    | inl here ↦ inl (m, (omega arith), here)
    | inr other ↦ elim (find m c) as (λ _. ((i : ℕ) × (i < suc m) × (cell i ≡ c)) ⊎ ((i : ℕ) → i < suc m → cell i ≢ c)) [
      | inl there ↦ let below : there.0 < m = there.1 in inl (there.0, (omega arith), there.2)
      | inr none ↦ inr (λ i below same. elim (cases_lt i m) as (λ _. ⊥) [
        | inl less ↦ none i less same
        | inr more ↦ let is : m ≡ i = omega arith in other (ap cell is ∙ same)
      ])
    ]
  ]

  pub car_here : (n i : ℕ) → i < n → record { number = number i; cell = cell i; speed = speed i } ≡ nth_car (cars_held cell speed number n) (mirrored n i)
  car_here n i below =
      let mirror : i ≡ mirrored n (mirrored n i) = omega arith in
      ap (λ k. record { number = number k; cell = cell k; speed = speed k }) mirror ∙ sym (car_held n (mirrored n i) (omega arith))

  -- the array of the list has these cars
  pub held : (n : ℕ) → ((i : ℕ) → i + 1 < n → cell (i + 1) < cell i) → AreCarsAt (vehicle_at (array_of (cars_held cell speed number n))) n cell speed number
  held n falling =
      let many = many_held n in
      record {
        falling = falling;
        stands = λ i below.
            vehicle_at-array_of (cars_held cell speed number n) (cell i)
            ∙ ap (λ x. vehicle_among x (cars_held cell speed number n)) (ap (λ (car : Car). car.cell) (car_here n i below))
            ∙ vehicle_among-at 0 (cars_held cell speed number n) (mirrored n i) nobody (rise_held n 0 falling (λ some. omega arith)) (omega arith)
            ∙ ap (λ (x : Car). Some (record { number = x.number; speed = x.speed })) (sym (car_here n i below));
        nobody = λ c none.
            vehicle_at-array_of (cars_held cell speed number n) c
            ∙ vehicle_among-absent (cars_held cell speed number n) c (λ k below same. none (mirrored n k) (omega arith) (sym (ap (λ (car : Car). car.cell) (car_held n k (omega arith))) ∙ same));
      }

  -- arrays of the same cars have the same at each cell
  pub same_roads : (a b : Array) (n : ℕ) → AreCarsAt (vehicle_at a) n cell speed number → AreCarsAt (vehicle_at b) n cell speed number → (c : ℕ) → vehicle_at a c ≡ vehicle_at b c
  same_roads a b n x y c = elim (find n c) as (λ _. vehicle_at a c ≡ vehicle_at b c) [
    | inl here ↦ ap (vehicle_at a) (sym here.2) ∙ x.stands here.0 here.1 ∙ sym (y.stands here.0 here.1) ∙ ap (vehicle_at b) here.2
    | inr none ↦ x.nobody c none ∙ sym (y.nobody c none)
  ]

-- there are at most as many cars before a cell as there are cells
few_from : (k n : ℕ) (cars : List Car) → AreRisingFrom k cars → All (λ car. car.cell < n) cars → length cars ≤ n - k
few_from k n [] rise before = omega arith
few_from k n (car ∷ cars) rise before =
    let from = rise.0 in
    let rest = few_from (car.cell + 1) n cars rise.1 (λ j d below. before (suc j) d (omega arith)) in
    let first : car.cell < n = before 0 car (omega arith) in omega arith

pub few_rising : (n : ℕ) (cars : List Car) → AreRisingFrom 0 cars → All (λ car. car.cell < n) cars → length cars ≤ n
few_rising n cars rise before = let few = few_from 0 n cars rise before in omega arith
