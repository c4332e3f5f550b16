-- The loop over the inlets.
use Rattle.std.proofs.Common.{◌≡◌, ◌<◌, ℕ, length, slice_index}
use Rattle.std.specs.List.{slice_index_or}
use Rattle.road_columns.proofs.finding.write_inlets.Given as goal

-- the cells so far are written
abbrev pub invariant-loop-inlet : goal.invariant-loop-inlet
invariant-loop-inlet l = record {
  long : length l.sites ≡ length l.fn.sites;
  written : (i : ℕ) → i < l.inlet → slice_index l.sites i ≡ (slice_index_or l.inlets i (0, 0)).0;
}
