-- The packed counts of the columns are the counts of the detectors.
use Rattle.std.specs.Prelude.{◌≡◌, ℕ, ◌+◌, ◌/◌, ◌%◌, ◌<◌, ◌≤◌, Bool, true, false, cond, List, length, sum, slice_index}
use Rattle.std.proofs.Common.{ap, ◌∙◌, arith, refl}
use Rattle.std.specs.List.{slice_index_or}
use Rattle.road_plan.specs.Plan.{Plan}
use Rattle.road_plan.specs.Settings.{Settings}
use Rattle.road_cells.specs.Array.{Array}
use Rattle.road_cells.specs.Cars.{cars_of}
use Rattle.road_ends.specs.Input.{input_speeds}
use Rattle.road_ends.specs.Speed.{speeds}
use Rattle.road_detector.specs.Passes.{drives, no_totals, passes_at, plus, totals_of}
use Rattle.road_columns.specs.Columns.{AreColumnsOf, mirrored}
use Rattle.road_columns.specs.Private.Sites.{IsOfSteps, IsPlaceOf, pass_count, is_past, passes_of, totals_of_count}
use Rattle.road_columns.proofs.CountedPasses.{alone, counted_at_place, counted_nowhere}

totals_alone : (hit : Bool) (v : ℕ) → v < 65536 → record { cars = length (alone hit v); speeds = sum (alone hit v) } ≡ totals_of_count (pass_count hit true v)
totals_alone true v small =
    let one : 1 ≡ (65536 + v) / 65536 = omega arith in
    let all : 0 + v ≡ (65536 + v) % 65536 = omega arith in
    (λ i. record { cars = one i; speeds = all i })
totals_alone false v small = refl

off : (hit : Bool) (v : ℕ) → no_totals ≡ totals_of_count (pass_count hit false v)
off true v = refl
off false v = refl

-- one step of one detector, on the road with its entries
pub packed_passes : (p : Plan) (s : Settings) (t : ℕ) (b : Array) (cells old numbers new vs : List ℕ) (d place : ℕ) → length b ≤ p.cells
    → AreColumnsOf b cells old numbers → length new ≡ length cells
    → ((i : ℕ) → i < length cells → slice_index new i ≡ slice_index cells i + slice_index vs i)
    → ((i : ℕ) → i + 1 < length cells → slice_index new (i + 1) < slice_index cells i)
    → ((i : ℕ) → i < length cells → slice_index vs i ≡ slice_index (speeds p s t b) (mirrored (length cells) i))
    → IsPlaceOf cells (slice_index p.detectors d) place → place < length cells → slice_index vs place < 65536
    → passes_at (record { plan = p; settings = s; step = t; road = b }) (input_speeds (record { plan = p; settings = s; step = t; road = b })) d
    ≡ totals_of_count (passes_of new vs (slice_index_or s.watched d false) (slice_index p.detectors d) place)
packed_passes p s t b cells old numbers new vs d place long columns as_many moved apart are is inside small = by_test (slice_index_or s.watched d false)
  where
    site : ℕ
    site = slice_index p.detectors d

    by_test : (on : Bool) → cond on (totals_of (slice_index p.detectors d) (drives (cars_of b) (speeds p s t b))) no_totals ≡ totals_of_count (passes_of new vs on (slice_index p.detectors d) place)
    by_test true =
        ap (λ xs. record { cars = length xs; speeds = sum xs }) (counted_at_place p s t b cells old numbers new vs (slice_index p.detectors d) place long columns as_many moved apart are is inside)
        ∙ totals_alone (is_past new (slice_index p.detectors d) place) (slice_index vs place) small
    by_test false = off (is_past new (slice_index p.detectors d) place) (slice_index vs place)

-- one step of one detector if no car is before the site
pub packed_nowhere : (p : Plan) (s : Settings) (t : ℕ) (b : Array) (cells old numbers new vs : List ℕ) (d place : ℕ) → length b ≤ p.cells
    → AreColumnsOf b cells old numbers → length new ≡ length cells
    → ((i : ℕ) → i < length cells → slice_index new i ≡ slice_index cells i + slice_index vs i)
    → ((i : ℕ) → i + 1 < length cells → slice_index new (i + 1) < slice_index cells i)
    → ((i : ℕ) → i < length cells → slice_index vs i ≡ slice_index (speeds p s t b) (mirrored (length cells) i))
    → IsPlaceOf cells (slice_index p.detectors d) place → length cells ≤ place
    → passes_at (record { plan = p; settings = s; step = t; road = b }) (input_speeds (record { plan = p; settings = s; step = t; road = b })) d ≡ no_totals
packed_nowhere p s t b cells old numbers new vs d place long columns as_many moved apart are is outside = by_test (slice_index_or s.watched d false)
  where
    by_test : (on : Bool) → cond on (totals_of (slice_index p.detectors d) (drives (cars_of b) (speeds p s t b))) no_totals ≡ no_totals
    by_test true = ap (λ xs. record { cars = length xs; speeds = sum xs }) (counted_nowhere p s t b cells old numbers new vs (slice_index p.detectors d) place long columns as_many moved apart are is outside)
    by_test false = refl

-- counts, one after another
pub packed_plus : (k n : ℕ) (hit watched : Bool) (v : ℕ) → k < 64 → v ≤ 9 → IsOfSteps k n
    → totals_of_count (n + pass_count hit watched v) ≡ plus (totals_of_count n) (totals_of_count (pass_count hit watched v))
packed_plus k n true true v early slow is =
    let few = is.few in
    let cars : (n + (65536 + v)) / 65536 ≡ n / 65536 + (65536 + v) / 65536 = omega arith in
    let all : (n + (65536 + v)) % 65536 ≡ n % 65536 + (65536 + v) % 65536 = omega arith in
    (λ i. record { cars = cars i; speeds = all i })
packed_plus k n true false v early slow is = nothing n
  where
    nothing : (n : ℕ) → totals_of_count (n + 0) ≡ plus (totals_of_count n) (totals_of_count 0)
    nothing n =
        let cars : (n + 0) / 65536 ≡ n / 65536 + 0 = omega arith in
        let all : (n + 0) % 65536 ≡ n % 65536 + 0 = omega arith in
        (λ i. record { cars = cars i; speeds = all i })
packed_plus k n false watched v early slow is = nothing n
  where
    nothing : (n : ℕ) → totals_of_count (n + 0) ≡ plus (totals_of_count n) (totals_of_count 0)
    nothing n =
        let cars : (n + 0) / 65536 ≡ n / 65536 + 0 = omega arith in
        let all : (n + 0) % 65536 ≡ n % 65536 + 0 = omega arith in
        (λ i. record { cars = cars i; speeds = all i })

pub one_step_more : (k n : ℕ) (hit watched : Bool) (v : ℕ) → k < 64 → v ≤ 9 → IsOfSteps k n → IsOfSteps (k + 1) (n + pass_count hit watched v)
one_step_more k n true true v early slow is = let few = is.few in let short = is.short in record { few = omega arith; short = omega arith }
one_step_more k n true false v early slow is = let few = is.few in let short = is.short in record { few = omega arith; short = omega arith }
one_step_more k n false watched v early slow is = let few = is.few in let short = is.short in record { few = omega arith; short = omega arith }
