use Rattle.std.proofs.Common.{◌≡◌, ◌++◌, map}
use Rattle.std.specs.List.{range_with_len}
use Rattle.std.specs.Option.{option_or}
use Rattle.road_cells.specs.Array.{vehicle_at}
use Rattle.road_cells.specs.Cars.{cars_from}
use Rattle.road_ends.specs.Entries.{entry_at}
use Rattle.road_ends.proofs.StepByCars.{cars_left}
use Rattle.tests_steps.proofs.plain.road_with_entries.Given as goal

abbrev pub invariant-loop-cell : goal.invariant-loop-cell
invariant-loop-cell l =
    l.cars.items ++ cars_left (λ c. option_or (vehicle_at l.road c) (entry_at l.plan l.settings l.step c)) l.plan.cells l.cell
    ≡ cars_from 0 (map (λ c. option_or (vehicle_at l.road c) (entry_at l.plan l.settings l.step c)) (range_with_len 0 l.plan.cells))
