-- The loop from region to region.
use Rattle.std.proofs.Common.{◌-◌}
use Rattle.road_columns.proofs.RegionsCut.{AreRegionsUpTo}
use Rattle.road_columns.proofs.cutting.regions_of.Given as goal

-- the regions so far are those of the cells before the next one
abbrev pub invariant-loop-first : goal.invariant-loop-first
invariant-loop-first l = record {
  cut : AreRegionsUpTo l.plan l.settings l.regions.items l.first;
}

abbrev pub decreases-loop-first : goal.decreases-loop-first
decreases-loop-first l = l.exit_start - l.first
