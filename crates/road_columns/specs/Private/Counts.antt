-- The counts of the detectors, before the interval of a step and in it.
use Rattle.std.specs.Prelude.{◌≡◌, ℕ, ◌*◌, ◌/◌, ◌%◌, ◌<◌, ◌≤◌, List, length, map, slice_index}
use Rattle.std.specs.List.{range_with_len, slice_index_or}
use Rattle.road_detector.specs.Passes.{no_totals, plus}
use Rattle.road_detector.specs.declared.counts.Totals.{Totals}
use Rattle.road_columns.specs.Private.Sites.{IsOfSteps, totals_of_count}

-- before step t, each of n detectors has its count of the steps of the current interval, and its totals of all steps
-- before that interval
pub record AreCounts (n t : ℕ) (passes : List ℕ) (totals : List Totals) : Type 0 where
  pub passes_each : length passes ≡ n
  pub totals_each : length totals ≡ n
  pub of_interval : (d : ℕ) → d < n → IsOfSteps (t % 64) (slice_index passes d)
  pub cars_before : (d : ℕ) → d < n → (slice_index_or totals d no_totals).cars ≤ 64 * (t / 64)
  pub speeds_before : (d : ℕ) → d < n → (slice_index_or totals d no_totals).speeds ≤ 576 * (t / 64)

-- the totals of a detector, its count in the interval included
abbrev pub total_in : List ℕ → List Totals → ℕ → Totals
total_in passes totals d = plus (slice_index_or totals d no_totals) (totals_of_count (slice_index passes d))

-- the totals of all detectors, their counts in the interval included
abbrev pub totals_in : List ℕ → List Totals → List Totals
totals_in passes totals = map (total_in passes totals) (range_with_len 0 (length totals))
