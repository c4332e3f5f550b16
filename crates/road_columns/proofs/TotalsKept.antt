-- The totals of detectors, with the counts of the current interval.
use Rattle.std.specs.Prelude.{◌≡◌, ℕ, zero, suc, ◌+◌, ◌<◌, ◌≤◌, List, ◌∷◌, length, map, slice_index}
use Rattle.std.proofs.Common.{sym, ap, ◌∙◌, arith, refl}
use Rattle.std.specs.List.{range_with_len, slice_index_or}
use Rattle.std.proofs.lemmas.List.FromFn.{get_or-map-range_with_len, length-map-range_with_len}
use Rattle.road_detector.specs.Passes.{no_totals, plus}
use Rattle.road_detector.specs.declared.counts.Totals.{Totals}
use Rattle.road_columns.specs.Private.Sites.{totals_of_count}
use Rattle.road_columns.specs.Private.Counts.{AreCounts, total_in, totals_in}

-- functions that agree give the same list
pub same_list : {X : Type 0} (f g : ℕ → X) (a n : ℕ) → ((d : ℕ) → a ≤ d → d < a + n → f d ≡ g d) → map f (range_with_len a n) ≡ map g (range_with_len a n)
same_list f g a zero same = refl
same_list f g a (suc n) same = (λ i. same a (omega arith) (omega arith) i ∷ same_list f g (a + 1) n (λ d from to. same d (omega arith) (omega arith)) i)

-- a detector's total
pub total_at : (passes : List ℕ) (totals : List Totals) (d : ℕ) → d < length totals → slice_index_or (totals_in passes totals) d no_totals ≡ total_in passes totals d
total_at passes totals d below = get_or-map-range_with_len (total_in passes totals) 0 (length totals) d d no_totals below (omega arith)

pub totals_long : (passes : List ℕ) (totals : List Totals) → length (totals_in passes totals) ≡ length totals
totals_long passes totals = length-map-range_with_len (total_in passes totals) 0 (length totals)

-- sums of totals do not depend on how they are grouped
pub plus_together : (x y z : Totals) → plus x (plus y z) ≡ plus (plus x y) z
plus_together x y z =
    let cars : x.cars + (y.cars + z.cars) ≡ (x.cars + y.cars) + z.cars = omega arith in
    let speeds : x.speeds + (y.speeds + z.speeds) ≡ (x.speeds + y.speeds) + z.speeds = omega arith in
    (λ i. record { cars = cars i; speeds = speeds i })

-- one more step adds its counts
pub totals_more : (passes passes' : List ℕ) (totals : List Totals) (more : ℕ → Totals) → length passes ≡ length totals
    → ((d : ℕ) → d < length passes → totals_of_count (slice_index passes' d) ≡ plus (totals_of_count (slice_index passes d)) (more d))
    → totals_in passes' totals ≡ map (λ d. plus (slice_index_or (totals_in passes totals) d no_totals) (more d)) (range_with_len 0 (length (totals_in passes totals)))
totals_more passes passes' totals more many counted =
    same_list (total_in passes' totals) (λ d. plus (slice_index_or (totals_in passes totals) d no_totals) (more d)) 0 (length totals)
    (λ d from to.
    ap (plus (slice_index_or totals d no_totals)) (counted d (omega arith))
    ∙ plus_together (slice_index_or totals d no_totals) (totals_of_count (slice_index passes d)) (more d)
    ∙ ap (λ x. plus x (more d)) (sym (total_at passes totals d (omega arith))))
    ∙ ap (λ n. map (λ d. plus (slice_index_or (totals_in passes totals) d no_totals) (more d)) (range_with_len 0 n)) (sym (totals_long passes totals))

-- counts start at zero
module _ (n t : ℕ) (passes : List ℕ) (totals : List Totals) (each : length passes ≡ n) (totals_each : length totals ≡ n)
    (empty : (d : ℕ) → d < n → slice_index passes d ≡ 0) (none : (d : ℕ) → d < n → slice_index_or totals d no_totals ≡ no_totals) where
  pub counts_cleared : AreCounts n t passes totals
  counts_cleared = record {
    passes_each = each;
    totals_each = totals_each;
    of_interval = λ d below. let zero = empty d below in record { few = omega arith; short = omega arith };
    cars_before = λ d below. let zero = ap (λ (x : Totals). x.cars) (none d below) in omega arith;
    speeds_before = λ d below. let zero = ap (λ (x : Totals). x.speeds) (none d below) in omega arith;
  }

  pub totals_cleared : totals_in passes totals ≡ map (λ d. no_totals) (range_with_len 0 n)
  totals_cleared =
      ap (λ m. map (total_in passes totals) (range_with_len 0 m)) totals_each
      ∙ same_list (total_in passes totals) (λ d. no_totals) 0 n (λ d from to. (λ i. plus (none d (omega arith) i) (totals_of_count (empty d (omega arith) i))))
