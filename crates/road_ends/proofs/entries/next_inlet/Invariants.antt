-- The loop that looks for the next inlet.
use Rattle.std.proofs.Common.{ℕ, ◌<◌, ◌≤◌}
use Rattle.std.specs.List.{slice_index_or}
use Rattle.road_ends.proofs.entries.next_inlet.Given as goal

abbrev pub invariant-loop-inlet : goal.invariant-loop-inlet
invariant-loop-inlet l = record {
  from : l.cell ≤ l.next;
  within : l.next ≤ l.end;
  first : (k : ℕ) → k < l.inlet-index → l.cell ≤ (slice_index_or l.inlets k (0, 0)).0 → l.next ≤ (slice_index_or l.inlets k (0, 0)).0;
}
