-- The detectors of an interval count more steps, one after another.
use Rattle.std.proofs.Common.{◌≡◌, ◌<◌, ◌≤◌, ℕ, length}
use Rattle.std.specs.List.{slice_index_or}
use Rattle.road_detector.specs.Passes.{no_totals, plus}
use Rattle.road_sheet.proofs.interval.Interval.add.Given as goal

-- the totals of the detectors so far are increased, and those of the others are unchanged
abbrev pub invariant-loop-detector : goal.invariant-loop-detector
invariant-loop-detector l = record {
  start : l.self.start ≡ l.fn.self.start;
  many : length l.self.totals.items ≡ length l.fn.self.totals.items;
  counted : (d : ℕ) → d < l.detector → slice_index_or l.self.totals.items d no_totals
      ≡ plus (slice_index_or l.fn.self.totals.items d no_totals) (slice_index_or l.totals d no_totals);
  others : (d : ℕ) → l.detector ≤ d → slice_index_or l.self.totals.items d no_totals
      ≡ slice_index_or l.fn.self.totals.items d no_totals;
}
