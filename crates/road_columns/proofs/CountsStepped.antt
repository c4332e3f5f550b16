-- One more step is counted at each detector, by the stored places of the sites.
use Rattle.std.specs.Prelude.{◌≡◌, ℕ, ◌+◌, ◌-◌, ◌%◌, ◌<◌, ◌≤◌, Bool, true, false, List, length, nat_le, slice_index, slice_range}
use Rattle.std.proofs.Common.{sym, ap, ◌∙◌, arith, inl, inr}
use Rattle.std.proofs.lemmas.Bool.{cases_lt}
use Rattle.std.proofs.lemmas.Bool.Decides.{nat_tests}
use Rattle.std.specs.List.{slice_index_or}
use Rattle.road_plan.specs.Plan.{Plan}
use Rattle.road_plan.specs.Settings.{Settings}
use Rattle.road_cells.specs.Array.{Array}
use Rattle.road_ends.specs.Input.{input_speeds}
use Rattle.road_ends.specs.Speed.{speeds}
use Rattle.road_detector.specs.Passes.{passes_at, plus}
use Rattle.road_columns.specs.Private.CarsAt.{IsPlaceAt, from_place}
use Rattle.road_columns.specs.Columns.{AreColumnsOf, mirrored}
use Rattle.road_columns.specs.Private.Sites.{IsOfSteps, pass_count, is_past, passes_of, totals_of_count}
use Rattle.road_columns.proofs.ColumnPlaces.{range_at, range_long}
use Rattle.road_columns.proofs.ColumnTotals.{one_step_more, packed_nowhere, packed_passes, packed_plus}
use Rattle.road_columns.proofs.WordsNeeded.{place_of_range}

past_not : (site c : ℕ) → c < site → nat_le site c ≡ false
past_not site c less = grind (arith, nat_tests)

-- the cells and speeds after the motion; behind all cars there is a 0
module _ (cells vs new : List ℕ) (head tail : ℕ) (order : head ≤ tail) (behind : slice_index new tail ≡ 0) (slow : (q : ℕ) → head ≤ q → q < tail → slice_index vs q ≤ 9) where
  -- what is counted at a place behind all cars is nothing
  counted_none : (site place : ℕ) (watched : Bool) → 0 < site → place ≡ tail → passes_of new vs watched site place ≡ 0
  counted_none site place watched some end =
      let at = ap (slice_index new) end in
      ap (λ hit. pass_count hit watched (slice_index vs place)) (past_not site (slice_index new place) (omega arith))

  -- a count stays small enough for its number of steps, so no sum overflows
  pub count_more : (site place k n : ℕ) (watched : Bool) → 0 < site → head ≤ place → place ≤ tail → k < 64 → IsOfSteps k n → IsOfSteps (k + 1) (n + passes_of new vs watched site place)
  count_more site place k n watched some from to early is = elim (cases_lt place tail) as (λ _. IsOfSteps (k + 1) (n + passes_of new vs watched site place)) [
    | inl inside ↦ one_step_more k n (is_past new site place) watched (slice_index vs place) early (slow place from inside) is
    | inr end ↦
        let none = counted_none site place watched some (omega arith) in
        let few = is.few in
        let short = is.short in
        let same : n + passes_of new vs watched site place ≡ n = omega arith in
        let rest : (n + passes_of new vs watched site place) % 65536 ≡ n % 65536 = ap (λ m. m % 65536) same in
        record { few = omega arith; short = omega arith }
  ]

  module _ (p : Plan) (s : Settings) (t : ℕ) (b : Array) (old numbers : List ℕ) (long : length b ≤ p.cells) (within : tail ≤ length cells) (within' : tail ≤ length new)
      (columns : AreColumnsOf b (slice_range cells head tail) (slice_range old head tail) (slice_range numbers head tail))
      (moved : (i : ℕ) → head ≤ i → i < tail → slice_index new i ≡ slice_index cells i + slice_index vs i)
      (apart : (i : ℕ) → head ≤ i → i + 1 < tail → slice_index new (i + 1) < slice_index cells i)
      (are : (i : ℕ) → head ≤ i → i < tail → slice_index vs i ≡ slice_index (speeds p s t b) (mirrored (tail - head) (i - head))) where
    long_new : length (slice_range new head tail) ≡ length (slice_range cells head tail)
    long_new = range_long new head tail within' ∙ sym (range_long cells head tail within)

    moved_range : (i : ℕ) → i < length (slice_range cells head tail) → slice_index (slice_range new head tail) i ≡ slice_index (slice_range cells head tail) i + slice_index (slice_range vs head tail) i
    moved_range i below =
        let size = range_long cells head tail within in
        range_at new head tail i (omega arith) ∙ moved (head + i) (omega arith) (omega arith) ∙ (λ j. sym (range_at cells head tail i (omega arith)) j + sym (range_at vs head tail i (omega arith)) j)

    apart_range : (i : ℕ) → i + 1 < length (slice_range cells head tail) → slice_index (slice_range new head tail) (i + 1) < slice_index (slice_range cells head tail) i
    apart_range i below =
        let size = range_long cells head tail within in
        let next : head + (i + 1) ≡ (head + i) + 1 = omega arith in
        let at = ap (slice_index new) next in
        let a = range_at new head tail (i + 1) (omega arith) in
        let c = range_at cells head tail i (omega arith) in
        let step = apart (head + i) (omega arith) (omega arith) in omega arith

    are_range : (i : ℕ) → i < length (slice_range cells head tail) → slice_index (slice_range vs head tail) i ≡ slice_index (speeds p s t b) (mirrored (length (slice_range cells head tail)) i)
    are_range i below =
        let size = range_long cells head tail within in
        let here : (head + i) - head ≡ i = omega arith in
        range_at vs head tail i (omega arith) ∙ are (head + i) (omega arith) (omega arith) ∙ (λ j. slice_index (speeds p s t b) (mirrored (sym size j) (here j)))

    -- what is counted at a place is what its detector counts
    counted_at : (d place : ℕ) → 0 < slice_index p.detectors d → head ≤ place → IsPlaceAt (tail - head) (from_place cells head) (slice_index p.detectors d) (place - head)
        → totals_of_count (passes_of new vs (slice_index_or s.watched d false) (slice_index p.detectors d) place)
        ≡ passes_at (record { plan = p; settings = s; step = t; road = b }) (input_speeds (record { plan = p; settings = s; step = t; road = b })) d
    counted_at d place some from at = elim (cases_lt place tail) as (λ _. totals_of_count (passes_of new vs (slice_index_or s.watched d false) (slice_index p.detectors d) place)
        ≡ passes_at (record { plan = p; settings = s; step = t; road = b }) (input_speeds (record { plan = p; settings = s; step = t; road = b })) d) [
          | inl inside ↦
              let here : head + (place - head) ≡ place = omega arith in
              let cell = range_at new head tail (place - head) (omega arith) ∙ ap (slice_index new) here in
              let speed = range_at vs head tail (place - head) (omega arith) ∙ ap (slice_index vs) here in
              let size = range_long cells head tail within in
              let few = slow place from inside in
              (λ j. totals_of_count (pass_count (nat_le (slice_index p.detectors d) (sym cell j)) (slice_index_or s.watched d false) (sym speed j)))
              ∙ sym (packed_passes p s t b (slice_range cells head tail) (slice_range old head tail) (slice_range numbers head tail) (slice_range new head tail) (slice_range vs head tail) d (place - head)
              long columns long_new moved_range apart_range are_range (place_of_range cells head tail (slice_index p.detectors d) (place - head) within at) (omega arith) (omega arith))
          | inr end ↦
              let size = range_long cells head tail within in
              let in_tail = at.within in
              ap totals_of_count (counted_none (slice_index p.detectors d) place (slice_index_or s.watched d false) some (omega arith))
              ∙ sym (packed_nowhere p s t b (slice_range cells head tail) (slice_range old head tail) (slice_range numbers head tail) (slice_range new head tail) (slice_range vs head tail) d (place - head)
              long columns long_new moved_range apart_range are_range (place_of_range cells head tail (slice_index p.detectors d) (place - head) within at) (omega arith))
        ]

    pub count_is : (d place k n : ℕ) → 0 < slice_index p.detectors d → head ≤ place → IsPlaceAt (tail - head) (from_place cells head) (slice_index p.detectors d) (place - head) → k < 64 → IsOfSteps k n
        → totals_of_count (n + passes_of new vs (slice_index_or s.watched d false) (slice_index p.detectors d) place)
        ≡ plus (totals_of_count n) (passes_at (record { plan = p; settings = s; step = t; road = b }) (input_speeds (record { plan = p; settings = s; step = t; road = b })) d)
    count_is d place k n some from at early is =
        by_place ∙ ap (plus (totals_of_count n)) (counted_at d place some from at)
      where
        by_place : totals_of_count (n + passes_of new vs (slice_index_or s.watched d false) (slice_index p.detectors d) place)
            ≡ plus (totals_of_count n) (totals_of_count (passes_of new vs (slice_index_or s.watched d false) (slice_index p.detectors d) place))
        by_place = elim (cases_lt place tail) as (λ _. totals_of_count (n + passes_of new vs (slice_index_or s.watched d false) (slice_index p.detectors d) place)
            ≡ plus (totals_of_count n) (totals_of_count (passes_of new vs (slice_index_or s.watched d false) (slice_index p.detectors d) place))) [
              | inl inside ↦ packed_plus k n (is_past new (slice_index p.detectors d) place) (slice_index_or s.watched d false) (slice_index vs place) early (slow place from inside) is
              | inr end ↦
                  let in_tail = at.within in
                  let none = counted_none (slice_index p.detectors d) place (slice_index_or s.watched d false) some (omega arith) in
                  ap (λ m. totals_of_count (n + m)) none ∙ packed_plus k n false true 0 early (omega arith) is ∙ ap (λ m. plus (totals_of_count n) (totals_of_count m)) (sym none)
            ]
