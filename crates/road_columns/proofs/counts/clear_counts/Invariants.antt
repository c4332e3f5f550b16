-- The loop over the detectors.
use Rattle.std.proofs.Common.{◌≡◌, ◌<◌, ℕ, length, slice_index}
use Rattle.std.specs.List.{slice_index_or}
use Rattle.road_detector.specs.Passes.{no_totals}
use Rattle.road_columns.proofs.counts.clear_counts.Given as goal

-- the counts so far are cleared
abbrev pub invariant-loop-detector : goal.invariant-loop-detector
invariant-loop-detector l = record {
  passes_each : length l.passes ≡ length l.fn.passes;
  totals_each : length l.totals ≡ length l.fn.totals;
  passes : (d : ℕ) → d < l.detector → slice_index l.passes d ≡ 0;
  totals : (d : ℕ) → d < l.detector → slice_index_or l.totals d no_totals ≡ no_totals;
}
