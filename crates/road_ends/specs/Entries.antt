-- The cars that enter the road at its inlets.
use Rattle.std.specs.Prelude.{ℕ, ◌+◌, ◌*◌, ◌^◌, ◌&&◌, not, Bool, nat_eq, slice_index, if◌then◌else◌}
use Rattle.std.specs.List.{position}
use Rattle.std.specs.Option.{option_or}
use Rattle.std.specs.declared.option.Option.{Option}
use Rattle.std.specs.declared.option.Option.TheVariants.{None, Some}
use Rattle.road_plan.specs.Plan.{Plan}
use Rattle.road_plan.specs.Settings.{Settings}
use Rattle.road_plan.specs.declared.limits.TheConstants.{MOST_INLETS}
use Rattle.road_words.specs.Words.{word}
use Rattle.road_cells.specs.Array.{Array, Vehicle, vehicle_at, array}
use Rattle.road_cells.specs.Gap.{is_blocked}
use Rattle.road_rules.specs.Speeds.{comes_about}

-- the number of the car that enters at inlet i at step t: no number is given twice
abbrev pub car_number : ℕ → ℕ → ℕ
car_number t i = MOST_INLETS * t + i

-- the stream of an inlet's words
abbrev pub inlet_stream : ℕ → ℕ
inlet_stream i = 2 ^ 63 + i

-- whether inlet i, at cell c, lets a car in at step t: its cell is not blocked, and its word makes the event of its
-- inflow chance happen
abbrev pub is_admitting : Plan → Settings → ℕ → ℕ → ℕ → Bool
is_admitting p s t c i = not (is_blocked s.blocks c)
    && comes_about (word p.words (inlet_stream i) t) (slice_index s.inflows i)

-- the car that inlet i lets in, if it lets one in
abbrev pub admitted_car : Plan → Settings → ℕ → ℕ → Option ℕ → Option Vehicle
admitted_car p s t c None = None
admitted_car p s t c (Some i) = if is_admitting p s t c i then Some (record { number = car_number t i; speed = 0 })
    else None

-- the car that enters at cell c if the cell is empty: there is none if the cell is not an inlet's
abbrev pub entry_at : Plan → Settings → ℕ → ℕ → Option Vehicle
entry_at p s t c = admitted_car p s t c (position (λ inlet. nat_eq c inlet.0) p.inlets)

-- the array with the cars that enter: a cell that holds a car keeps it
abbrev pub road_with_entries : Plan → Settings → ℕ → Array → Array
road_with_entries p s t a = array p.cells (λ c. option_or (vehicle_at a c) (entry_at p s t c))
