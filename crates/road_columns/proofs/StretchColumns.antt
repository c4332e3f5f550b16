-- Columns without the cars past a cell: at most one car is removed in a step.
use Rattle.std.specs.Prelude.{◌≡◌, ℕ, ◌+◌, ◌-◌, ◌<◌, ◌≤◌, List, length, slice_index, slice_range}
use Rattle.std.proofs.Common.{sym, ap, ◌∙◌, arith, inl, inr}
use Rattle.std.specs.declared.option.Option.TheVariants.{None, Some}
use Rattle.std.proofs.lemmas.Bool.{cases_lt}
use Rattle.road_cells.specs.Array.{Array, vehicle_at, array}
use Rattle.road_cells.proofs.ArrayPlaces.{past_array, vehicle_at-array}
use Rattle.road_columns.specs.Columns.{AreColumnsOf}
use Rattle.road_columns.specs.Private.CarsAt.{AreCarsAt, from_place}
use Rattle.road_columns.proofs.ColumnPlaces.{cars_of_ranges, ranges_of_cars}

-- the first cars, which are at a cell or past it, are removed
pub cars_cut : (b : Array) (hi n m : ℕ) (cell speed number : ℕ → ℕ) → AreCarsAt (vehicle_at b) n cell speed number → m ≤ n
    → ((i : ℕ) → i < m → hi ≤ cell i) → ((i : ℕ) → m ≤ i → i < n → cell i < hi)
    → AreCarsAt (vehicle_at (array hi (vehicle_at b))) (n - m) (λ i. cell (m + i)) (λ i. speed (m + i)) (λ i. number (m + i))
cars_cut b hi n m cell speed number are few past before = record {
  falling = λ i below. let next : (m + i) + 1 ≡ m + (i + 1) = omega arith in let at = ap cell next in let fall = are.falling (m + i) (omega arith) in omega arith;
  stands = λ i below. vehicle_at-array hi (vehicle_at b) (cell (m + i)) (before (m + i) (omega arith) (omega arith)) ∙ are.stands (m + i) (omega arith);
  nobody = λ c apart. elim (cases_lt c hi) as (λ _. vehicle_at (array hi (vehicle_at b)) c ≡ None) [
    | inl low ↦ vehicle_at-array hi (vehicle_at b) c low ∙ are.nobody c (λ i below same. elim (cases_lt i m) as (λ _. ⊥) [
      | inl less ↦ let high = past i less in absurd (omega arith)
      | inr more ↦ let is : m + (i - m) ≡ i = omega arith in apart (i - m) (omega arith) (ap cell is ∙ same)
    ])
    | inr high ↦ past_array hi (vehicle_at b) c high
  ];
}

-- the same in columns: `out` cars leave at the far end, by the exit (hi = exit_start p: the array is road_before_exit p
-- b) or by the end of the stretch
pub columns_cut : (b : Array) (hi head tail out : ℕ) (cells speeds numbers : List ℕ) → tail ≤ length cells → head + out ≤ tail
    → ((i : ℕ) → head ≤ i → i < head + out → hi ≤ slice_index cells i) → ((i : ℕ) → head + out ≤ i → i < tail → slice_index cells i < hi)
    → AreColumnsOf b (slice_range cells head tail) (slice_range speeds head tail) (slice_range numbers head tail)
    → AreColumnsOf (array hi (vehicle_at b)) (slice_range cells (head + out) tail) (slice_range speeds (head + out) tail) (slice_range numbers (head + out) tail)
columns_cut b hi head tail out cells speeds numbers within some past before columns =
    ranges_of_cars (array hi (vehicle_at b)) cells speeds numbers (head + out) tail within
    (place_by_place (cars_cut b hi (tail - head) out (from_place cells head) (from_place speeds head) (from_place numbers head) (cars_of_ranges b cells speeds numbers head tail within columns)
    (omega arith) (λ i below. past (head + i) (omega arith) (omega arith)) (λ i from below. before (head + i) (omega arith) (omega arith))))
  where
    at : (xs : List ℕ) (i : ℕ) → from_place xs (head + out) i ≡ from_place xs head (out + i)
    at xs i = let same : (head + out) + i ≡ head + (out + i) = omega arith in ap (slice_index xs) same

    place_by_place : AreCarsAt (vehicle_at (array hi (vehicle_at b))) (tail - head - out) (λ i. from_place cells head (out + i)) (λ i. from_place speeds head (out + i)) (λ i. from_place numbers head (out + i))
        → AreCarsAt (vehicle_at (array hi (vehicle_at b))) (tail - (head + out)) (from_place cells (head + out)) (from_place speeds (head + out)) (from_place numbers (head + out))
    place_by_place are = record {
      falling = λ i below. let a = at cells i in let b = at cells (i + 1) in let fall = are.falling i (omega arith) in omega arith;
      stands = λ i below. ap (vehicle_at (array hi (vehicle_at b))) (at cells i) ∙ are.stands i (omega arith) ∙ (λ j. Some (record { number = sym (at numbers i) j; speed = sym (at speeds i) j }));
      nobody = λ c apart. are.nobody c (λ i below same. apart i (omega arith) (at cells i ∙ same));
    }

-- at most one car reaches a cell or passes it in a step, so at most one leaves
pub one_leaves : (cells new : List ℕ) (head tail hi : ℕ)
    → ((i : ℕ) → head ≤ i → i < tail → slice_index cells i < hi) → ((i : ℕ) → head ≤ i → i + 1 < tail → slice_index new (i + 1) < slice_index cells i)
    → (i : ℕ) → head + 1 ≤ i → i < tail → slice_index new i < hi
one_leaves cells new head tail hi before apart i from to =
    let one : (i - 1) + 1 ≡ i = omega arith in
    let at = ap (slice_index new) one in
    let low = apart (i - 1) (omega arith) (omega arith) in
    let old = before (i - 1) (omega arith) (omega arith) in omega arith
