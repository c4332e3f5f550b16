-- The totals of the detectors so far are added, and those of the others are as they were.
use Rattle.std.proofs.Common.{◌≡◌, ◌<◌, ◌≤◌, ℕ, length}
use Rattle.std.specs.List.{slice_index_or}
use Rattle.road_detector.specs.Passes.{no_totals, plus}
use Rattle.road_workers.proofs.stretch.joining.add.Given as goal

abbrev pub invariant-loop-detector : goal.invariant-loop-detector
invariant-loop-detector l = record {
  many : length l.totals.items ≡ length l.fn.totals.items;
  added : (d : ℕ) → d < l.detector → slice_index_or l.totals.items d no_totals
      ≡ plus (slice_index_or l.fn.totals.items d no_totals) (slice_index_or l.others d no_totals);
  rest : (d : ℕ) → l.detector ≤ d → slice_index_or l.totals.items d no_totals ≡ slice_index_or l.fn.totals.items d no_totals;
}
