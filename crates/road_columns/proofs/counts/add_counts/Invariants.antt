-- The loop over the detectors.
use Rattle.std.proofs.Common.{◌≡◌, ◌<◌, ◌≤◌, ℕ, length, slice_index}
use Rattle.std.specs.List.{slice_index_or}
use Rattle.road_detector.specs.Passes.{no_totals, plus}
use Rattle.road_columns.specs.Private.Sites.{totals_of_count}
use Rattle.road_columns.proofs.counts.add_counts.Given as goal

-- the counts so far are added, the others not
abbrev pub invariant-loop-detector : goal.invariant-loop-detector
invariant-loop-detector l = record {
  passes_each : length l.passes ≡ length l.fn.passes;
  totals_each : length l.totals ≡ length l.fn.totals;
  totals_done : (d : ℕ) → d < l.detector → slice_index_or l.totals d no_totals ≡ plus (slice_index_or l.fn.totals d no_totals) (totals_of_count (slice_index l.fn.passes d));
  passes_done : (d : ℕ) → d < l.detector → slice_index l.passes d ≡ 0;
  totals_rest : (d : ℕ) → l.detector ≤ d → slice_index_or l.totals d no_totals ≡ slice_index_or l.fn.totals d no_totals;
  passes_rest : (d : ℕ) → l.detector ≤ d → slice_index l.passes d ≡ slice_index l.fn.passes d;
}
