-- The walk up the zones that are alike.
use Rattle.std.proofs.Common.{◌≤◌, ◌<◌, ◌-◌, ℕ, length, slice_index}
use Rattle.road_columns.specs.Private.Regions.{AreOfZone}
use Rattle.road_columns.proofs.cutting.alike_end.Given as goal

-- the zones so far are alike
abbrev pub invariant-loop-next : goal.invariant-loop-next
invariant-loop-next l = record {
  more : l.zone < l.next;
  within : l.next ≤ length l.limits;
  alike : (z : ℕ) → l.zone ≤ z → z < l.next → AreOfZone l.limits l.starts l.chances z (slice_index l.limits l.zone) (slice_index l.starts l.zone) (slice_index l.chances l.zone);
}

abbrev pub decreases-loop-next : goal.decreases-loop-next
decreases-loop-next l = length l.limits - l.next
