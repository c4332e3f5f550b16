-- Visiting the cells of the road from inlet to inlet.
use Rattle.std.specs.Prelude.{◌≡◌, ◌≢◌, ℕ, zero, suc, ◌+◌, ◌-◌, ◌<◌, ◌≤◌, true, List, [], ◌∷◌, ◌++◌, length, map, nat_eq, refl}
use Rattle.std.specs.List.{slice_index_or, position, range_with_len}
use Rattle.std.specs.Option.{option_or}
use Rattle.std.specs.declared.option.Option.{Option}
use Rattle.std.specs.declared.option.Option.TheVariants.{None, Some}
use Rattle.std.proofs.Common.{sym, ap, ◌∙◌, arith, append_assoc}
use Rattle.std.proofs.lemmas.List.FromFn.{length-map-range_with_len}
use Rattle.std.proofs.lemmas.Bool.Decides.{nat_tests}
use Rattle.std.proofs.lemmas.List.{map-append}
use Rattle.std.proofs.lemmas.List.Quantifiers.{position-Some}
use Rattle.road_plan.specs.Plan.{Plan}
use Rattle.road_plan.specs.Settings.{Settings}
use Rattle.road_cells.specs.Array.{Array, Vehicle, vehicle_at}
use Rattle.road_cells.specs.Cars.{cars_from, car_of}
use Rattle.road_cells.specs.declared.car.Car.{Car}
use Rattle.road_ends.specs.Entries.{admitted_car, entry_at}
use Rattle.road_ends.proofs.StepByCars.{cars_left}

-- a cell that is not an inlet's
pub no_inlet : (inlets : List (ℕ × ℕ)) (c : ℕ) → ((k : ℕ) → k < length inlets → (slice_index_or inlets k (0, 0)).0 ≢ c) → position (λ inlet. nat_eq c inlet.0) inlets ≡ None
no_inlet inlets c apart = elim (position (λ inlet. nat_eq c inlet.0) inlets) as (λ o. position (λ inlet. nat_eq c inlet.0) inlets ≡ o → o ≡ None) [
  | None ↦ λ is. refl
  | Some i ↦ λ is.
      let at = position-Some (λ inlet. nat_eq c inlet.0) inlets i (0, 0) is in
      let test : nat_eq c (slice_index_or inlets i (0, 0)).0 ≡ true = at.1 in
      absurd (apart i at.0 (grind (arith, nat_tests)))
] refl

-- no car enters if there is no inlet
pub nobody_enters : (p : Plan) (s : Settings) (t : ℕ) (a : Array) (c : ℕ) → position (λ inlet. nat_eq c inlet.0) p.inlets ≡ None → option_or (vehicle_at a c) (entry_at p s t c) ≡ vehicle_at a c
nobody_enters p s t a c none = ap (option_or (vehicle_at a c)) (ap (admitted_car p s t c) none) ∙ nobody (vehicle_at a c)
  where
    nobody : (o : Option Vehicle) → option_or o None ≡ o
    nobody None = refl
    nobody (Some v) = refl

-- numbers, one part after another
pub range_with_len-append : (a m n : ℕ) → range_with_len a (m + n) ≡ range_with_len a m ++ range_with_len (a + m) n
range_with_len-append a zero n = let all : 0 + n ≡ n = omega arith in let here : a ≡ a + 0 = omega arith in ap (range_with_len a) all ∙ ap (λ k. range_with_len k n) here
range_with_len-append a (suc m) n =
    let all : suc m + n ≡ suc (m + n) = omega arith in
    let next : (a + 1) + m ≡ a + suc m = omega arith in
    ap (range_with_len a) all ∙ ap (λ xs. a ∷ xs) (range_with_len-append (a + 1) m n ∙ ap (λ k. range_with_len (a + 1) m ++ range_with_len k n) next)

-- the cars of places, one part after another
pub cars_from-append : (k m : ℕ) (xs ys : List (Option Vehicle)) → length xs ≡ m → cars_from k (xs ++ ys) ≡ cars_from k xs ++ cars_from (k + m) ys
cars_from-append k m [] ys is = let here : k ≡ k + m = omega arith in ap (λ j. cars_from j ys) here
cars_from-append k zero (x ∷ xs) ys is = absurd (omega arith)
cars_from-append k (suc m) (None ∷ xs) ys is =
    let next : (k + 1) + m ≡ k + suc m = omega arith in
    cars_from-append (k + 1) m xs ys (omega arith) ∙ ap (λ j. cars_from (k + 1) xs ++ cars_from j ys) next
cars_from-append k (suc m) (Some v ∷ xs) ys is =
    let next : (k + 1) + m ≡ k + suc m = omega arith in
    ap (λ cars. car_of k v ∷ cars) (cars_from-append (k + 1) m xs ys (omega arith) ∙ ap (λ j. cars_from (k + 1) xs ++ cars_from j ys) next)

same_on : (f g : ℕ → Option Vehicle) (n a : ℕ) → ((c : ℕ) → a ≤ c → c < a + n → f c ≡ g c) → map f (range_with_len a n) ≡ map g (range_with_len a n)
same_on f g zero a same = refl
same_on f g (suc n) a same = λ i. same a (omega arith) (omega arith) i ∷ same_on f g n (a + 1) (λ c le lt. same c (omega arith) (omega arith)) i

module _ (f g : ℕ → Option Vehicle) (n : ℕ) where
  -- up to a cell the cars are those of a function that agrees
  pub cars_up_to : (cell to : ℕ) (done now all : List Car) → cell ≤ to → to ≤ n → ((c : ℕ) → cell ≤ c → c < to → f c ≡ g c)
      → now ≡ done ++ cars_from cell (map g (range_with_len cell (to - cell))) → done ++ cars_left f n cell ≡ all → now ++ cars_left f n to ≡ all
  unfolding cars_left
  cars_up_to cell to done now all le within same new rest =
      let parts : n - cell ≡ (to - cell) + (n - to) = omega arith in
      let far : cell + (to - cell) ≡ to = omega arith in
      let split : cars_from cell (map f (range_with_len cell (n - cell))) ≡ cars_from cell (map g (range_with_len cell (to - cell))) ++ cars_from to (map f (range_with_len to (n - to))) =
      ap (λ k. cars_from cell (map f (range_with_len cell k))) parts
      ∙ ap (λ xs. cars_from cell (map f xs)) (range_with_len-append cell (to - cell) (n - to))
      ∙ ap (cars_from cell) (map-append f (range_with_len cell (to - cell)) (range_with_len (cell + (to - cell)) (n - to)))
      ∙ cars_from-append cell (to - cell) (map f (range_with_len cell (to - cell))) (map f (range_with_len (cell + (to - cell)) (n - to))) (length-map-range_with_len f cell (to - cell))
      ∙ (λ i. cars_from cell (same_on f g (to - cell) cell (λ c low high. same c low (omega arith)) i) ++ cars_from (far i) (map f (range_with_len (far i) (n - to)))) in
      ap (λ cars. cars ++ cars_from to (map f (range_with_len to (n - to)))) new
      ∙ append_assoc done (cars_from cell (map g (range_with_len cell (to - cell)))) (cars_from to (map f (range_with_len to (n - to))))
      ∙ ap (λ cars. done ++ cars) (sym split) ∙ rest

-- past the end no car is left
pub nobody_past : (f : ℕ → Option Vehicle) (n cell : ℕ) (done all : List Car) → n ≤ cell → done ++ cars_left f n cell ≡ all → done ++ cars_left f n (cell + 1) ≡ all
unfolding cars_left
nobody_past f n cell done all past rest =
    let none : n - cell ≡ 0 = omega arith in
    let none_next : n - (cell + 1) ≡ 0 = omega arith in
    ap (λ k. done ++ cars_from (cell + 1) (map f (range_with_len (cell + 1) k))) none_next ∙ ap (λ k. done ++ cars_from cell (map f (range_with_len cell k))) (sym none) ∙ rest
