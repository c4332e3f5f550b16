-- The detectors, one after another.
use Rattle.std.proofs.Common.{◌≡◌, ◌<◌, ◌≤◌, ℕ, length, if◌then◌else◌}
use Rattle.std.specs.List.{slice_index_or}
use Rattle.road_detector.specs.Passes.{no_totals}
use Rattle.road_workers.specs.Private.Stretches.{has_site}
use Rattle.road_workers.proofs.stretch.cutting.forget_outside.Given as goal

-- the detectors so far have counts only if they are on the stretch, and the others are as they were
abbrev pub invariant-loop-detector : goal.invariant-loop-detector
invariant-loop-detector l = record {
  many : length l.totals.items ≡ length l.fn.totals.items;
  forgotten : (d : ℕ) → d < l.detector → slice_index_or l.totals.items d no_totals
      ≡ (if has_site l.stretch.first l.stretch.end l.plan d then slice_index_or l.fn.totals.items d no_totals else no_totals);
  others : (d : ℕ) → l.detector ≤ d → slice_index_or l.totals.items d no_totals ≡ slice_index_or l.fn.totals.items d no_totals;
}
