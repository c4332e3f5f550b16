-- The loop from the last place back.
use Rattle.std.proofs.Common.{◌≤◌, ◌<◌, ℕ, slice_index}
use Rattle.road_columns.proofs.regions.first_from.Given as goal

abbrev pub invariant-loop-first : goal.invariant-loop-first
invariant-loop-first l = record {
  bound : l.first ≤ l.last;
  after : (i : ℕ) → l.first ≤ i → i < l.last → l.place ≤ slice_index l.places i;
}

abbrev pub decreases-loop-first : goal.decreases-loop-first
decreases-loop-first l = l.first
