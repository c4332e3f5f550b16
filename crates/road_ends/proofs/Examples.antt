-- Worked examples, computed from the definitions: the check fails if a definition is wrong. The words are the steady
-- ones. They do not matter if each chance is 0 or certain.
use Rattle.std.specs.Prelude.{◌≡◌, ℕ, if◌then◌else◌, List, [], ◌∷◌, nat_lt, codes, refl}
use Rattle.std.specs.declared.option.Option.TheVariants.{None, Some}
use Rattle.road_plan.specs.Plan.{Plan}
use Rattle.road_plan.specs.Settings.{defaults}
use Rattle.road_plan.specs.declared.parts.WordKind.TheVariants.{Steady}
use Rattle.road_cells.specs.Gap.{free_before}
use Rattle.road_ends.specs.Run.{Course, run}
use Rattle.road_ends.specs.Row.{row}

-- a road of 12 cells with an inlet at its start that always lets in, limit 2, no slowing
abbrev free_road : Plan
free_road = record {
  cells = 12;
  exit = 1;
  width = 12;
  zones = (2, 0) ∷ [];
  inlets = (0, 65536) ∷ [];
  detectors = 5 ∷ [];
  words = Steady;
}

-- the plan's own settings at every step
abbrev quiet : Course
quiet step = defaults free_road

free_road_at_0 : row free_road quiet 0 ≡ codes "............"
unfolding free_before
free_road_at_0 = refl

free_road_at_1 : row free_road quiet 1 ≡ codes ".1.........."
unfolding free_before
free_road_at_1 = refl

free_road_at_2 : row free_road quiet 2 ≡ codes "0..2........"
unfolding free_before
free_road_at_2 = refl

free_road_at_3 : row free_road quiet 3 ≡ codes ".1...2......"
unfolding free_before
free_road_at_3 = refl

free_road_at_4 : row free_road quiet 4 ≡ codes "0..2...2...."
unfolding free_before
free_road_at_4 = refl

free_road_at_5 : row free_road quiet 5 ≡ codes ".1...2...2.."
unfolding free_before
free_road_at_5 = refl

free_road_at_6 : row free_road quiet 6 ≡ codes "0..2...2...."
unfolding free_before
free_road_at_6 = refl

-- the car that entered first is deleted in the step to state 6
free_road_cars : run free_road quiet 6 ≡ Some (record { number = 80; speed = 0 }) ∷ None ∷ None ∷ Some (record { number = 48; speed = 2 }) ∷ None ∷ None ∷ None ∷ Some (record { number = 16; speed = 2 }) ∷ []
unfolding free_before
free_road_cars = refl

-- cell 8 is blocked from step 4 on
abbrev blocked_ahead : Course
blocked_ahead step = record (defaults free_road) { blocks = if nat_lt step 4 then [] else 8 ∷ [] }

blocked_ahead_at_4 : row free_road blocked_ahead 4 ≡ codes "0..2...2#..."
unfolding free_before
blocked_ahead_at_4 = refl

blocked_ahead_at_5 : row free_road blocked_ahead 5 ≡ codes ".1...2.0#..."
unfolding free_before
blocked_ahead_at_5 = refl

blocked_ahead_at_6 : row free_road blocked_ahead 6 ≡ codes "0..2..10#..."
unfolding free_before
blocked_ahead_at_6 = refl

-- cell 7, which has a car on it, is blocked from step 4 on: the car drives away, and the next one stops before the cell
abbrev blocked_under_car : Course
blocked_under_car step = record (defaults free_road) { blocks = if nat_lt step 4 then [] else 7 ∷ [] }

blocked_under_car_at_4 : row free_road blocked_under_car 4 ≡ codes "0..2...2...."
unfolding free_before
blocked_under_car_at_4 = refl

blocked_under_car_at_5 : row free_road blocked_under_car 5 ≡ codes ".1...2.#.2.."
unfolding free_before
blocked_under_car_at_5 = refl

blocked_under_car_at_6 : row free_road blocked_under_car 6 ≡ codes "0..2..1#...."
unfolding free_before
blocked_under_car_at_6 = refl

-- the inlet's cell is blocked: no car enters
abbrev blocked_inlet : Course
blocked_inlet step = record (defaults free_road) { blocks = 0 ∷ [] }

blocked_inlet_at_5 : row free_road blocked_inlet 5 ≡ codes "#..........."
unfolding free_before
blocked_inlet_at_5 = refl

-- the limit falls to 1 at step 3 and to 0 at step 5: faster cars drop to it immediately
abbrev lowered : Course
lowered step = record (defaults free_road) { limits = (if nat_lt step 3 then 2 else (if nat_lt step 5 then 1 else 0)) ∷ [] }

lowered_at_3 : row free_road lowered 3 ≡ codes ".1...2......"
unfolding free_before
lowered_at_3 = refl

lowered_at_4 : row free_road lowered 4 ≡ codes "0.1...1....."
unfolding free_before
lowered_at_4 = refl

lowered_at_5 : row free_road lowered 5 ≡ codes ".1.1...1...."
unfolding free_before
lowered_at_5 = refl

lowered_at_6 : row free_road lowered 6 ≡ codes "00.0...0...."
unfolding free_before
lowered_at_6 = refl

lowered_at_7 : row free_road lowered 7 ≡ codes "00.0...0...."
unfolding free_before
lowered_at_7 = refl

-- every car is slowed by chance at every step
abbrev always_slowed : Course
always_slowed step = record (defaults free_road) { chances = 65536 ∷ []; starts = 65536 ∷ [] }

always_slowed_at_1 : row free_road always_slowed 1 ≡ codes "0..........."
unfolding free_before
always_slowed_at_1 = refl

always_slowed_at_6 : row free_road always_slowed 6 ≡ codes "0..........."
unfolding free_before
always_slowed_at_6 = refl

-- the slowing chance is one half
abbrev half_slowed : Course
half_slowed step = record (defaults free_road) { chances = 32768 ∷ []; starts = 32768 ∷ [] }

half_slowed_at_1 : row free_road half_slowed 1 ≡ codes "0..........."
unfolding free_before
half_slowed_at_1 = refl

half_slowed_at_2 : row free_road half_slowed 2 ≡ codes "0..........."
unfolding free_before
half_slowed_at_2 = refl

half_slowed_at_3 : row free_road half_slowed 3 ≡ codes ".1.........."
unfolding free_before
half_slowed_at_3 = refl

half_slowed_at_4 : row free_road half_slowed 4 ≡ codes "0.1........."
unfolding free_before
half_slowed_at_4 = refl

half_slowed_at_5 : row free_road half_slowed 5 ≡ codes "0...2......."
unfolding free_before
half_slowed_at_5 = refl

half_slowed_at_6 : row free_road half_slowed 6 ≡ codes ".1...1......"
unfolding free_before
half_slowed_at_6 = refl

-- standing cars never start before step 3, and always from there on (slow-to-start)
abbrev late_start : Course
late_start step = record (defaults free_road) { starts = (if nat_lt step 3 then 65536 else 0) ∷ [] }

late_start_at_3 : row free_road late_start 3 ≡ codes "0..........."
unfolding free_before
late_start_at_3 = refl

late_start_at_4 : row free_road late_start 4 ≡ codes ".1.........."
unfolding free_before
late_start_at_4 = refl

late_start_at_5 : row free_road late_start 5 ≡ codes "0..2........"
unfolding free_before
late_start_at_5 = refl

late_start_at_6 : row free_road late_start 6 ≡ codes ".1...2......"
unfolding free_before
late_start_at_6 = refl

-- every moving car is slowed, and no standing car
abbrev slow_drivers : Course
slow_drivers step = record (defaults free_road) { chances = 65536 ∷ [] }

slow_drivers_at_1 : row free_road slow_drivers 1 ≡ codes ".1.........."
unfolding free_before
slow_drivers_at_1 = refl

slow_drivers_at_2 : row free_road slow_drivers 2 ≡ codes "0.1........."
unfolding free_before
slow_drivers_at_2 = refl

slow_drivers_at_3 : row free_road slow_drivers 3 ≡ codes ".1.1........"
unfolding free_before
slow_drivers_at_3 = refl

slow_drivers_at_4 : row free_road slow_drivers 4 ≡ codes "00..1......."
unfolding free_before
slow_drivers_at_4 = refl

slow_drivers_at_5 : row free_road slow_drivers 5 ≡ codes "0.1..1......"
unfolding free_before
slow_drivers_at_5 = refl

-- the inlet's word at step 1 is 30,011: not below a chance of 30,011, but below 30,012
abbrev let_in_below : ℕ → Course
let_in_below chance step = record (defaults free_road) { inflows = chance ∷ [] }

let_in_below_30011 : row free_road (let_in_below 30011) 2 ≡ codes "...2........"
unfolding free_before
let_in_below_30011 = refl

let_in_below_30012 : row free_road (let_in_below 30012) 2 ≡ codes "0..2........"
unfolding free_before
let_in_below_30012 = refl

-- two zones of 6 cells with limits 2 and 1, and a deleted zone of 3 cells
abbrev two_zones : Plan
two_zones = record {
  cells = 12;
  exit = 3;
  width = 6;
  zones = (2, 0) ∷ (1, 0) ∷ [];
  inlets = (0, 65536) ∷ [];
  detectors = 5 ∷ [];
  words = Steady;
}

abbrev two_limits : Course
two_limits step = defaults two_zones

two_limits_at_5 : row two_zones two_limits 5 ≡ codes ".1...2..1..."
unfolding free_before
two_limits_at_5 = refl

two_limits_at_6 : row two_zones two_limits 6 ≡ codes "0..2...2...."
unfolding free_before
two_limits_at_6 = refl

-- nine inlets on 32 cells, slowing chance one half
abbrev nine_inlets : Plan
nine_inlets = record {
  cells = 32;
  exit = 1;
  width = 32;
  zones = (2, 32768) ∷ [];
  inlets = (0, 65536) ∷ (3, 65536) ∷ (6, 65536) ∷ (9, 65536) ∷ (12, 65536) ∷ (15, 65536) ∷ (18, 65536) ∷ (21, 65536) ∷ (24, 65536) ∷ [];
  detectors = [];
  words = Steady;
}

abbrev dense : Course
dense step = defaults nine_inlets

dense_at_1 : row nine_inlets dense 1 ≡ codes "0...1.0...1.0..0...1.0...1......"
unfolding free_before
dense_at_1 = refl

dense_at_2 : row nine_inlets dense 2 ≡ codes "0..00..1.00..1..1.00..1.0.1....."
unfolding free_before
dense_at_2 = refl

-- one car on 64 cells with limit 9: it enters at step 0 alone
abbrev long_road : Plan
long_road = record {
  cells = 64;
  exit = 1;
  width = 64;
  zones = (9, 0) ∷ [];
  inlets = (0, 65536) ∷ [];
  detectors = [];
  words = Steady;
}

abbrev one_car : List ℕ → Course
one_car blocks step = record (defaults long_road) {
  inflows = (if nat_lt step 1 then 65536 else 0) ∷ [];
  blocks = if nat_lt step 9 then [] else blocks;
}

gains_speed_to_nine : row long_road (one_car []) 9 ≡ codes ".............................................9.................."
unfolding free_before
gains_speed_to_nine = refl

-- the block is just past the nine cells that a car can drive
block_at_the_tenth_cell : row long_road (one_car (55 ∷ [])) 10 ≡ codes "......................................................9#........"
unfolding free_before
block_at_the_tenth_cell = refl

-- the block is the ninth cell
block_at_the_ninth_cell : row long_road (one_car (54 ∷ [])) 10 ≡ codes ".....................................................8#........."
unfolding free_before
block_at_the_ninth_cell = refl

-- cells past the end are free: the car passes the road's end at full speed and is deleted
drives_off_at_full_speed : row long_road (one_car []) 12 ≡ codes "................................................................"
unfolding free_before
drives_off_at_full_speed = refl
