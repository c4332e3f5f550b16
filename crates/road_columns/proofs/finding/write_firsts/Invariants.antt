-- The loop over the regions.
use Rattle.std.proofs.Common.{◌≡◌, ◌+◌, ◌<◌, ℕ, length, slice_index}
use Rattle.road_columns.specs.Private.Regions.{region_at}
use Rattle.road_columns.proofs.finding.write_firsts.Given as goal

-- the first cells so far are written
abbrev pub invariant-loop-region : goal.invariant-loop-region
invariant-loop-region l = record {
  long : length l.sites ≡ length l.fn.sites;
  before : (i : ℕ) → i < l.from → slice_index l.sites i ≡ slice_index l.fn.sites i;
  written : (r : ℕ) → r < l.region → slice_index l.sites (l.from + r) ≡ (region_at l.regions r).first;
}
