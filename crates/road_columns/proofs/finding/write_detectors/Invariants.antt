-- The loop over the detectors.
use Rattle.std.proofs.Common.{◌≡◌, ◌+◌, ◌<◌, ℕ, length, slice_index}
use Rattle.road_columns.proofs.finding.write_detectors.Given as goal

-- the sites so far are written
abbrev pub invariant-loop-detector : goal.invariant-loop-detector
invariant-loop-detector l = record {
  long : length l.sites ≡ length l.fn.sites;
  before : (i : ℕ) → i < l.from → slice_index l.sites i ≡ slice_index l.fn.sites i;
  written : (d : ℕ) → d < l.detector → slice_index l.sites (l.from + d) ≡ slice_index l.detectors d;
}
