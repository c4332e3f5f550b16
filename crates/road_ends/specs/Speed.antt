-- The new speed of a car.
use Rattle.std.specs.Prelude.{ℕ, ◌+◌, ◌&&◌, Bool, List, map, nat_eq, nat_lt, slice_index, if◌then◌else◌}
use Rattle.std.specs.List.{slice_index_or}
use Rattle.road_plan.specs.Plan.{Plan, zone_of}
use Rattle.road_plan.specs.Settings.{Settings}
use Rattle.road_words.specs.Words.{word}
use Rattle.road_cells.specs.Array.{Array, Vehicle}
use Rattle.road_cells.specs.Cars.{cars_of, vehicle_of}
use Rattle.road_cells.specs.Gap as cells
use Rattle.road_cells.specs.Gap.{free_before}
use Rattle.road_cells.specs.declared.car.TheConstants.{GREATEST_SPEED}
use Rattle.road_cells.specs.declared.car.Car.{Car}
use Rattle.road_rules.specs.Speeds.{wanted_speed, slowed_speed, comes_about}

-- whether a cell is on the road and holds a car or is blocked
abbrev pub is_taken_on_road : Plan → Settings → Array → ℕ → Bool
is_taken_on_road p s a c = nat_lt c p.cells && cells.is_taken s.blocks a c

-- the free cells in front of cell c, at most 9: cells past the end of the road are free
abbrev pub gap : Plan → Settings → Array → ℕ → ℕ
gap p s a c = free_before (is_taken_on_road p s a) (c + 1) GREATEST_SPEED

-- the slowing chance of a car by its speed before the acceleration: the chance of standing cars if that speed is 0,
-- else that of moving cars (slow-to-start; Barlović, Santen, Schadschneider and Schreckenberg 1998)
abbrev pub chance_at : ℕ → ℕ → ℕ → ℕ
chance_at speed standing moving = if nat_eq speed 0 then standing else moving

-- whether a car is slowed: its word at this step makes the event of its chance in its zone happen
abbrev pub is_slowed : Plan → Settings → ℕ → ℕ → Vehicle → Bool
is_slowed p s t zone car =
    comes_about (word p.words car.number t)
    (chance_at car.speed (slice_index s.starts zone) (slice_index s.chances zone))

-- the new speed of a car at cell c: rules 1 to 3 with the limit and the chances of the zone where it is
-- (Nagel and Schreckenberg 1992)
abbrev pub speed : Plan → Settings → ℕ → Array → ℕ → Vehicle → ℕ
speed p s t a c car =
    slowed_speed (wanted_speed car.speed (slice_index s.limits (zone_of p c)) (gap p s a c))
    (is_slowed p s t (zone_of p c) car)

-- the k-th car, counted from 0
abbrev pub nth_car : List Car → ℕ → Car
nth_car cars k = slice_index_or cars k (record { number = 0; cell = 0; speed = 0 })

-- the new speeds of all cars, in the order of the cars
abbrev pub speeds : Plan → Settings → ℕ → Array → List ℕ
speeds p s t a = map (λ car. speed p s t a car.cell (vehicle_of car)) (cars_of a)
