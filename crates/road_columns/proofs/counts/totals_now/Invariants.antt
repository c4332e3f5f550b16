-- The loop over the detectors.
use Rattle.std.proofs.Common.{◌≡◌}
use Rattle.std.specs.Prelude.{map}
use Rattle.std.specs.List.{range_with_len}
use Rattle.road_columns.specs.Private.Counts.{total_in}
use Rattle.road_columns.proofs.counts.totals_now.Given as goal

-- the totals so far
abbrev pub invariant-loop-detector : goal.invariant-loop-detector
invariant-loop-detector l = record {
  listed : l.all.items ≡ map (total_in l.passes l.totals) (range_with_len 0 l.detector);
}
