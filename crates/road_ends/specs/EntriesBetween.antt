-- The road with its entries between two cells, and the input of a step there.
use Rattle.std.specs.Prelude.{ℕ, ◌-◌, map}
use Rattle.std.specs.List.{range_with_len}
use Rattle.std.specs.Option.{option_or}
use Rattle.std.specs.declared.option.Option.{Option}
use Rattle.road_plan.specs.Plan.{Plan}
use Rattle.road_plan.specs.Settings.{Settings}
use Rattle.road_cells.specs.Array.{Array, Vehicle, vehicle_at}
use Rattle.road_cells.specs.Cars.{array_of, cars_from}
use Rattle.road_ends.specs.Entries.{entry_at}
use Rattle.road_ends.specs.Input.{StepInput}

-- the vehicle at a cell, if there is one, once cars have entered
abbrev pub with_entry : Plan → Settings → ℕ → Array → ℕ → Option Vehicle
with_entry p s t a c = option_or (vehicle_at a c) (entry_at p s t c)

-- the cells from lo to before hi of the array with the cars that enter
abbrev pub entries_between : ℕ → ℕ → Plan → Settings → ℕ → Array → Array
entries_between lo hi p s t a = array_of (cars_from lo (map (with_entry p s t a) (range_with_len lo (hi - lo))))

-- the input of step t on these cells of an array
abbrev pub input_between : ℕ → ℕ → Plan → Settings → ℕ → Array → StepInput
input_between lo hi p s t a = record { plan = p; settings = s; step = t; road = entries_between lo hi p s t a }
