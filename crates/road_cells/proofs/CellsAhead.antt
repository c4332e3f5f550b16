-- The free cells in front of a car: up to the next car of the list, and up to the next block of the list.
use Rattle.std.specs.Prelude.{◌≡◌, ◌≢◌, ℕ, suc, ◌+◌, ◌-◌, ◌<◌, ◌≤◌, ◌||◌, min, true, false, List, [], ◌∷◌, length, is_some, nat_eq, nat_le, slice_index, refl}
use Rattle.std.specs.List.{slice_index_or}
use Rattle.std.specs.List.Sorted.{IsNonDecreasing, IsPartitionedBy, IsPartitionPoint}
use Rattle.std.proofs.Common.{sym, ap, ◌∙◌, arith, inl, inr}
use Rattle.std.proofs.lemmas.Bool.{cases_lt, eq-eqb, ne_eqb}
use Rattle.std.proofs.lemmas.Bool.Decides.{nat_tests}
use Rattle.std.proofs.lemmas.List.Folds.{list_any_at}
use Rattle.road_cells.specs.Cars.{AreRising, vehicle_among, car_of, cell_at}
use Rattle.road_cells.proofs.CarPlaces.{rise-at, vehicle_among-absent, vehicle_among-at}
use Rattle.road_cells.specs.Gap.{free_before, is_blocked, ArePartedAt}
use Rattle.road_cells.proofs.FreeCells.{free_before-first, free_before-none}
use Rattle.road_cells.specs.declared.car.Car.{Car}

-- the cell of a car that the list has at a place
pub cell_at-is : (cars : List Car) (k : ℕ) (car : Car) → ((d : Car) → car ≡ slice_index_or cars k d) → cell_at cars k ≡ car.cell
cell_at-is cars k car is = ap (λ x. x.cell) (sym (is (car_of 0 (record { number = 0; speed = 0 }))))

-- no car is between two neighbours
between : (cars : List Car) (place k : ℕ) → AreRising cars → place + 1 < length cars → cell_at cars place < k → k < cell_at cars (place + 1) → is_some (vehicle_among k cars) ≡ false
between cars place k rise next after below = ap is_some (vehicle_among-absent cars k apart)
  where
    apart : (i : ℕ) → i < length cars → cell_at cars i ≢ k
    apart i in_list same = elim (cases_lt i (place + 1)) as (λ _. ⊥) [
      | inl before ↦ elim (cases_lt i place) as (λ _. ⊥) [
        | inl earlier ↦ let lower = rise-at 0 cars i place rise earlier (omega arith) in omega arith
        | inr later ↦ let here : i ≡ place = omega arith in let cell = ap (cell_at cars) here in omega arith
      ]
      | inr behind ↦ elim (cases_lt (place + 1) i) as (λ _. ⊥) [
        | inl further ↦ let higher = rise-at 0 cars (place + 1) i rise further in_list in omega arith
        | inr not ↦ let here : i ≡ place + 1 = omega arith in let cell = ap (cell_at cars) here in omega arith
      ]
    ]

-- the cells up to the next car are free
pub free_to_next : (cars : List Car) (place n : ℕ) (d : Car) → AreRising cars → place + 1 < length cars
    → free_before (λ c. is_some (vehicle_among c cars)) (cell_at cars place + 1) n ≡ min n (cell_at cars (place + 1) - (cell_at cars place + 1))
free_to_next cars place n d rise next =
    let further = rise-at 0 cars place (place + 1) rise (omega arith) next in
    free_before-first (λ c. is_some (vehicle_among c cars)) n (cell_at cars place + 1) (cell_at cars (place + 1)) (omega arith)
    (λ k le lt. between cars place k rise next (omega arith) lt)
    (ap is_some (vehicle_among-at 0 cars (place + 1) d rise next))

-- no car is in front of the last car
pub free_to_none : (cars : List Car) (place n : ℕ) → AreRising cars → place < length cars → length cars ≤ place + 1
    → free_before (λ c. is_some (vehicle_among c cars)) (cell_at cars place + 1) n ≡ n
free_to_none cars place n rise here last = free_before-none (λ c. is_some (vehicle_among c cars)) n (cell_at cars place + 1) (λ k le lt. ap is_some (vehicle_among-absent cars k (apart k le)))
  where
    apart : (k : ℕ) → cell_at cars place + 1 ≤ k → (i : ℕ) → i < length cars → cell_at cars i ≢ k
    apart k after i in_list same = elim (cases_lt i place) as (λ _. ⊥) [
      | inl earlier ↦ let lower = rise-at 0 cars i place rise earlier here in omega arith
      | inr later ↦ let is : i ≡ place = omega arith in let cell = ap (cell_at cars) is in omega arith
    ]

-- a cell that is not in the list of blocks is not blocked
pub not_blocked : (blocks : List ℕ) (k : ℕ) → ((i : ℕ) → i < length blocks → slice_index blocks i ≢ k) → is_blocked blocks k ≡ false
not_blocked [] k apart = refl
not_blocked (block ∷ blocks) k apart =
    ap (λ b. b || is_blocked blocks k) (ne_eqb k block (λ same. apart 0 (omega arith) (sym same)))
    ∙ not_blocked blocks k (λ i below. apart (suc i) (omega arith))

-- each of the blocks is blocked
pub blocked_at : (blocks : List ℕ) (i : ℕ) → i < length blocks → is_blocked blocks (slice_index blocks i) ≡ true
blocked_at blocks i below = list_any_at (nat_eq (slice_index blocks i)) blocks i 0 below (eq-eqb (slice_index blocks i) (slice_index blocks i) refl)

-- a cell divides blocks that do not fall
pub parted : (blocks : List ℕ) (cell : ℕ) → IsNonDecreasing blocks → IsPartitionedBy (λ block. nat_le block cell) blocks
parted blocks cell rising i j d le below reached = grind (arith, nat_tests, rising i j d le below)

-- the place at which a search divides the blocks
pub parted_at : (blocks : List ℕ) (cell n : ℕ) → IsPartitionPoint (λ block. nat_le block cell ≡ true) (λ block. nat_le block cell ≡ false) blocks n → ArePartedAt blocks cell n
parted_at blocks cell n point = record {
  reached = λ i before below. let test : nat_le (slice_index blocks i) cell ≡ true = point.0 i 0 (omega arith) before in grind (arith, nat_tests);
  ahead = λ i after below. let test : nat_le (slice_index blocks i) cell ≡ false = point.1 i 0 after below in grind (arith, nat_tests);
}

module _ (blocks : List ℕ) (cell next : ℕ) (rising : IsNonDecreasing blocks) (point : ArePartedAt blocks cell next) where
  -- the block after that place is the first one in front of the cell
  pub free_to_point : (n : ℕ) → next < length blocks → free_before (is_blocked blocks) (cell + 1) n ≡ min n (slice_index blocks next - (cell + 1))
  free_to_point n in_list =
      let far = point.ahead next (omega arith) in_list in
      free_before-first (is_blocked blocks) n (cell + 1) (slice_index blocks next) (omega arith) (λ k le lt. not_blocked blocks k (apart k le lt)) (blocked_at blocks next in_list)
    where
      apart : (k : ℕ) → cell + 1 ≤ k → k < slice_index blocks next → (i : ℕ) → i < length blocks → slice_index blocks i ≢ k
      apart k le lt i below same = elim (cases_lt i next) as (λ _. ⊥) [
        | inl before ↦ let low = point.reached i before below in omega arith
        | inr after ↦ let high : slice_index blocks next ≤ slice_index blocks i = rising next i 0 after below in omega arith
      ]

  -- if no block is left, no block is in front of the cell
  pub free_to_end : (n : ℕ) → length blocks ≤ next → free_before (is_blocked blocks) (cell + 1) n ≡ n
  free_to_end n past = free_before-none (is_blocked blocks) n (cell + 1) (λ k le lt. not_blocked blocks k (λ i below same. let low = point.reached i (omega arith) below in absurd (omega arith)))
