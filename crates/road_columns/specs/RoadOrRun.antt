-- A road, or a run that has reached it.
use Rattle.road_cells.specs.Array.{Array}
use Rattle.road_columns.specs.declared.road_or_run.RoadOrRun.{RoadOrRun}
use Rattle.road_columns.specs.declared.road_or_run.RoadOrRun.TheVariants.{Road, Run}

-- the road itself, or the road that the run has reached
abbrev pub road_now : RoadOrRun → Array
road_now (Road a) = a
road_now (Run run) = run.road
