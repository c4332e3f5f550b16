-- The road with its entries between two cells. Between the ends of the road it is the whole road with its entries, and
-- between other cells it agrees with that.
use Rattle.std.specs.Prelude.{◌≡◌, ℕ, zero, suc, ◌+◌, ◌-◌, ◌*◌, ◌<◌, ◌≤◌, List, [], ◌∷◌, length, map, min}
use Rattle.std.specs.List.{range_with_len}
use Rattle.std.specs.declared.option.Option.{Option}
use Rattle.std.specs.declared.option.Option.TheVariants.{None, Some}
use Rattle.std.proofs.Common.{sym, ap, subst, ◌∙◌, inl, inr, arith}
use Rattle.std.proofs.lemmas.Bool.{cases_lt}
use Rattle.std.proofs.lemmas.List.FromFn.{length-map-range_with_len}
use Rattle.road_plan.specs.Plan.{Plan}
use Rattle.road_plan.specs.Settings.{Settings}
use Rattle.road_cells.specs.Array.{Array, Vehicle, vehicle_at}
use Rattle.road_cells.specs.Cars.{array_of, cars_from, end_of, vehicle_among}
use Rattle.road_cells.specs.declared.car.Car.{Car}
use Rattle.road_cells.specs.declared.car.TheConstants.{GREATEST_SPEED}
use Rattle.road_cells.proofs.ArrayPlaces.{length-array, past_array, past_end, vehicle_at-array}
use Rattle.road_cells.proofs.CarLists.{array_of-cars_from, vehicle_at-array_of, vehicle_among-cars_from}
use Rattle.road_ends.specs.Entries.{road_with_entries}
use Rattle.road_ends.specs.Input.{StepInput, input_of}
use Rattle.road_ends.specs.Laws.{AgreeNear}
use Rattle.road_ends.specs.EntriesBetween.{entries_between, input_between, with_entry}
use Rattle.road_ends.specs.Span.{Span, IsInputNear}

-- the cars of a list of places end where the places end, or before
pub end_of-cars_from : (k : ℕ) (places : List (Option Vehicle)) → end_of (cars_from k places) ≤ k + length places
end_of-cars_from k [] = omega arith
end_of-cars_from k (None ∷ places) = let rest = end_of-cars_from (k + 1) places in omega arith
end_of-cars_from k (Some v ∷ places) = let rest = end_of-cars_from (k + 1) places in omega arith

-- the values of a function at n numbers from a on
pub given_at : (f : ℕ → Option Vehicle) (n a j : ℕ) → j < n → vehicle_at (map f (range_with_len a n)) j ≡ f (a + j)
given_at f zero a j below = absurd (omega arith)
given_at f (suc n) a zero below = let here : a ≡ a + 0 = omega arith in ap f here
given_at f (suc n) a (suc j) below = let next : (a + 1) + j ≡ a + suc j = omega arith in given_at f n (a + 1) j (omega arith) ∙ ap f next

-- between two cells, the array of the cars that a function has there has the values of the function
pub between-at : (f : ℕ → Option Vehicle) (lo hi c : ℕ) → lo ≤ c → c < hi → vehicle_at (array_of (cars_from lo (map f (range_with_len lo (hi - lo))))) c ≡ f c
between-at f lo hi c above below =
    let here : c ≡ lo + (c - lo) = omega arith in
    vehicle_at-array_of (cars_from lo (map f (range_with_len lo (hi - lo)))) c
    ∙ ap (λ k. vehicle_among k (cars_from lo (map f (range_with_len lo (hi - lo))))) here
    ∙ vehicle_among-cars_from lo (c - lo) (map f (range_with_len lo (hi - lo)))
    ∙ given_at f (hi - lo) lo (c - lo) (omega arith) ∙ sym (ap f here)

-- that array ends at the second cell or before
pub between-ends : (f : ℕ → Option Vehicle) (lo hi n : ℕ) → hi ≤ n → length (array_of (cars_from lo (map f (range_with_len lo (hi - lo))))) ≤ n
between-ends f lo hi n within = elim (cases_lt lo hi) as (λ _. length (array_of (cars_from lo (map f (range_with_len lo (hi - lo))))) ≤ n) [
  | inl some ↦
      let cars : List Car = cars_from lo (map f (range_with_len lo (hi - lo))) in
      let long = length-array (end_of cars) (λ c. vehicle_among c cars) in
      let end = end_of-cars_from lo (map f (range_with_len lo (hi - lo))) in
      let many = length-map-range_with_len f lo (hi - lo) in
      omega arith
  | inr none ↦
      let empty : hi - lo ≡ 0 = omega arith in
      let nothing = ap (λ k. length (array_of (cars_from lo (map f (range_with_len lo k))))) empty in
      omega arith
]

-- between the ends of the road, the cells with the cars that enter are the road with its entries
pub whole-entries : (p : Plan) (s : Settings) (t : ℕ) (a : Array) (lo hi : ℕ) → lo ≡ 0 → hi ≡ p.cells → entries_between lo hi p s t a ≡ road_with_entries p s t a
whole-entries p s t a lo hi begin end =
    let all : hi - lo ≡ p.cells = omega arith in
    (λ i. array_of (cars_from (begin i) (map (with_entry p s t a) (range_with_len (begin i) (all i)))))
    ∙ array_of-cars_from p.cells (with_entry p s t a)

-- so the input between the ends of the road is the input of the step
pub whole-input : (p q : Plan) (s : Settings) (t : ℕ) (a : Array) (lo hi : ℕ) → q ≡ p → lo ≡ 0 → hi ≡ q.cells → input_between lo hi p s t a ≡ input_of p s t a
whole-input p q s t a lo hi same begin end = ap (λ a. record { plan = p; settings = s; step = t; road = a }) (whole-entries p s t a lo hi begin (end ∙ ap (λ (p : Plan). p.cells) same))

-- near a stretch, the cells with the cars that enter agree with the road with its entries
pub near-entries : (p : Plan) (s : Settings) (t : ℕ) (a : Array) (lo hi k from to : ℕ) → from ≡ lo - GREATEST_SPEED * k → to ≡ min (hi + GREATEST_SPEED * k) p.cells
    → AgreeNear k lo hi (entries_between from to p s t a) (road_with_entries p s t a)
near-entries p s t a lo hi k from to begin end = record {
  same = λ c above below. elim (cases_lt c p.cells) as (λ _. vehicle_at (entries_between from to p s t a) c ≡ vehicle_at (road_with_entries p s t a) c) [
    | inl on ↦ between-at (with_entry p s t a) from to c (omega arith) (omega arith) ∙ sym (vehicle_at-array p.cells (with_entry p s t a) c on)
    | inr past ↦
        let ends = between-ends (with_entry p s t a) from to p.cells (omega arith) in
        past_end (entries_between from to p s t a) c (omega arith) ∙ sym (past_array p.cells (with_entry p s t a) c past)
  ];
}

-- so the cells near a stretch, with the cars that enter, make an input near the stretch of a step of a span
pub near-input : (span : Span) (p q : Plan) (s : Settings) (done t : ℕ) (a : Array) (lo hi from to : ℕ) (input : StepInput) → p ≡ span.plan → q ≡ span.plan → s ≡ span.settings → t ≡ span.step + done
    → from ≡ lo - GREATEST_SPEED * (span.steps - done) → to ≡ min (hi + GREATEST_SPEED * (span.steps - done)) q.cells → input ≡ input_between from to p s t a
    → IsInputNear lo hi span done a input
near-input span p q s done t a lo hi from to input is_plan is_limits is_settings is_step begin end is = record {
  of_span = record { plan = ap (λ (x : StepInput). x.plan) is ∙ is_plan; settings = ap (λ (x : StepInput). x.settings) is ∙ is_settings };
  step = ap (λ (x : StepInput). x.step) is ∙ is_step;
  road = subst (λ x. AgreeNear (span.steps - done) lo hi x (road_with_entries span.plan span.settings (span.step + done) a))
      (sym (ap (λ (x : StepInput). x.road) is ∙ (λ i. entries_between from to (is_plan i) (is_settings i) (is_step i) a)))
      (near-entries span.plan span.settings (span.step + done) a lo hi (span.steps - done) from to begin (end ∙ ap (λ (p : Plan). min (hi + GREATEST_SPEED * (span.steps - done)) p.cells) is_limits));
}
