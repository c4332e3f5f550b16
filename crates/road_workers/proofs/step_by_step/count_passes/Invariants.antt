-- The detectors count one more step, one after another.
use Rattle.std.proofs.Common.{◌≡◌, ◌<◌, ◌≤◌, ℕ, length}
use Rattle.std.specs.List.{slice_index_or}
use Rattle.road_detector.specs.Passes.{no_totals, passes_at, plus}
use Rattle.road_workers.proofs.step_by_step.count_passes.Given as goal

-- the totals of the detectors so far, and those of the others as they were
abbrev pub invariant-loop-detector : goal.invariant-loop-detector
invariant-loop-detector l = record {
  many : length l.totals.items ≡ length l.fn.totals.items;
  counted : (d : ℕ) → d < l.detector → slice_index_or l.totals.items d no_totals
      ≡ plus (slice_index_or l.fn.totals.items d no_totals) (passes_at l.input l.speeds d);
  others : (d : ℕ) → l.detector ≤ d → slice_index_or l.totals.items d no_totals
      ≡ slice_index_or l.fn.totals.items d no_totals;
}
