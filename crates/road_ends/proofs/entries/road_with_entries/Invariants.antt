-- The walk over the cells, from inlet to inlet.
use Rattle.std.proofs.Common.{◌≡◌, ◌-◌, ◌++◌, map}
use Rattle.std.specs.List.{range_with_len}
use Rattle.road_cells.specs.Cars.{cars_from}
use Rattle.road_ends.specs.EntriesBetween.{with_entry}
use Rattle.road_ends.proofs.StepByCars.{cars_left}
use Rattle.road_ends.proofs.entries.road_with_entries.Given as goal

abbrev pub invariant-loop-cell : goal.invariant-loop-cell
invariant-loop-cell l =
    l.cars.items ++ cars_left (with_entry l.at.plan.now l.at.settings.now l.at.step l.road) l.end l.cell
    ≡ cars_from 0 (map (with_entry l.at.plan.now l.at.settings.now l.at.step l.road) (range_with_len 0 l.end))

abbrev pub decreases-loop-cell : goal.decreases-loop-cell
decreases-loop-cell l = l.end - l.cell
