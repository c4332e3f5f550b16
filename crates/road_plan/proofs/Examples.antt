-- Plans worked out by hand, as equations that the checker computes: both sides of each limit.
use Rattle.std.specs.Prelude.{◌≡◌, true, false, List, ℕ, [], ◌∷◌, map, replicate, refl}
use Rattle.std.specs.List.{range_with_len}
use Rattle.std.specs.declared.option.Option.TheVariants.{None, Some}
use Rattle.road_plan.specs.Plan.{Plan}
use Rattle.road_plan.specs.Refusals.{fault_of_plan}
use Rattle.road_plan.specs.Objects.{is_in_plan, allows, default}
use Rattle.road_plan.specs.declared.parts.WordKind.TheVariants.{Seeded}
use Rattle.road_plan.specs.declared.faults.PlanFault.TheVariants.{Length, Exit, Zones, Inlets, Detectors, Default}
use Rattle.road_plan.specs.declared.object.Object.TheVariants.{Limit, Slow, Block, Inflow, Watch, Start}
use Rattle.road_plan.specs.declared.limits.TheConstants as limits

-- twelve cells, the last one deleted, with one zone, one inlet at the first cell and one detector
abbrev small : Plan
small = record {
  cells = 12;
  exit = 1;
  width = 12;
  zones = (2, 0) ∷ [];
  inlets = (0, 65536) ∷ [];
  detectors = 5 ∷ [];
  words = Seeded 7;
}

small_plan : fault_of_plan small ≡ None
small_plan = refl

-- ---- the length

seven_cells : fault_of_plan (record small { cells = 7 }) ≡ Some Length
seven_cells = refl

eight_cells : fault_of_plan (record small { cells = 8 }) ≡ None
eight_cells = refl

-- a road of the maximum length, with one zone
abbrev long : Plan
long = record small { cells = 8192; width = 8192 }

most_cells : fault_of_plan long ≡ None
most_cells = refl

one_cell_more : fault_of_plan (record long { cells = 8193; width = 8193 }) ≡ Some Length
one_cell_more = refl

-- ---- the deleted zone

no_cell_deleted : fault_of_plan (record small { exit = 0 }) ≡ Some Exit
no_cell_deleted = refl

deleted_from_the_second_cell : fault_of_plan (record small { exit = 11; detectors = [] }) ≡ None
deleted_from_the_second_cell = refl

all_cells_deleted : fault_of_plan (record small { exit = 12; detectors = [] }) ≡ Some Exit
all_cells_deleted = refl

longest_exit : fault_of_plan (record long { exit = 64 }) ≡ None
longest_exit = refl

exit_of_65_cells : fault_of_plan (record long { exit = 65 }) ≡ Some Exit
exit_of_65_cells = refl

-- ---- the zones

no_width : fault_of_plan (record small { width = 0 }) ≡ Some Zones
no_width = refl

one_zone_too_few : fault_of_plan (record small { width = 11 }) ≡ Some Zones
one_zone_too_few = refl

shorter_last_zone : fault_of_plan (record small { width = 11; zones = (2, 0) ∷ (3, 0) ∷ [] }) ≡ None
shorter_last_zone = refl

one_zone_too_many : fault_of_plan (record small { zones = (2, 0) ∷ (3, 0) ∷ [] }) ≡ Some Zones
one_zone_too_many = refl

most_zones : fault_of_plan (record small { cells = 64; width = 1; zones = replicate 64 (2, 0) }) ≡ None
most_zones = refl

zones_of_65 : fault_of_plan (record small { cells = 65; width = 1; zones = replicate 65 (2, 0) }) ≡ Some Zones
zones_of_65 = refl

-- ---- the inlets

no_inlet : fault_of_plan (record small { inlets = [] }) ≡ Some Inlets
no_inlet = refl

inlet_before_the_deleted_zone : fault_of_plan (record small { inlets = (10, 65536) ∷ [] }) ≡ None
inlet_before_the_deleted_zone = refl

inlet_in_the_deleted_zone : fault_of_plan (record small { inlets = (11, 65536) ∷ [] }) ≡ Some Inlets
inlet_in_the_deleted_zone = refl

two_inlets : fault_of_plan (record small { inlets = (3, 0) ∷ (4, 1) ∷ [] }) ≡ None
two_inlets = refl

two_inlets_at_a_cell : fault_of_plan (record small { inlets = (3, 0) ∷ (3, 1) ∷ [] }) ≡ Some Inlets
two_inlets_at_a_cell = refl

-- inlets at the first cells, always closed
abbrev first_inlets : ℕ → List (ℕ × ℕ)
first_inlets n = map (λ cell. (cell, 0)) (range_with_len 0 n)

most_inlets : fault_of_plan (record long { inlets = first_inlets 16 }) ≡ None
most_inlets = refl

inlets_of_17_cells : fault_of_plan (record long { inlets = first_inlets 17 }) ≡ Some Inlets
inlets_of_17_cells = refl

-- ---- the detectors

no_detector : fault_of_plan (record small { detectors = [] }) ≡ None
no_detector = refl

detector_at_the_first_cell : fault_of_plan (record small { detectors = 0 ∷ [] }) ≡ Some Detectors
detector_at_the_first_cell = refl

detectors_at_both_ends : fault_of_plan (record small { detectors = 1 ∷ 10 ∷ [] }) ≡ None
detectors_at_both_ends = refl

detector_in_the_deleted_zone : fault_of_plan (record small { detectors = 11 ∷ [] }) ≡ Some Detectors
detector_in_the_deleted_zone = refl

most_detectors : fault_of_plan (record small { detectors = replicate 64 5 }) ≡ None
most_detectors = refl

detectors_of_65 : fault_of_plan (record small { detectors = replicate 65 5 }) ≡ Some Detectors
detectors_of_65 = refl

-- ---- the numbers of zones and inlets

greatest_limit : fault_of_plan (record small { zones = (9, 0) ∷ [] }) ≡ None
greatest_limit = refl

limit_of_ten : fault_of_plan (record small { zones = (10, 0) ∷ [] }) ≡ Some Default
limit_of_ten = refl

certain_chance : fault_of_plan (record small { zones = (2, 65536) ∷ [] }) ≡ None
certain_chance = refl

chance_above_certain : fault_of_plan (record small { zones = (2, 65537) ∷ [] }) ≡ Some Default
chance_above_certain = refl

inflow_above_certain : fault_of_plan (record small { inlets = (0, 65537) ∷ [] }) ≡ Some Default
inflow_above_certain = refl

-- the largest road that is accepted, with the most zones and the longest deleted zone
greatest_plan : fault_of_plan (record small { cells = 8192; exit = 64; width = 128; zones = replicate 64 (9, 65536) }) ≡ None
greatest_plan = refl

-- the earlier of two faults
zones_before_detectors : fault_of_plan (record small { width = 0; detectors = 0 ∷ [] }) ≡ Some Zones
zones_before_detectors = refl

-- ---- the objects of edits

allowed_limits : (allows (Limit 0) 9 ≡ true) × (allows (Limit 0) 10 ≡ false)
allowed_limits = (refl, refl)

allowed_chances : (allows (Slow 0) 65536 ≡ true) × (allows (Slow 0) 65537 ≡ false)
allowed_chances = (refl, refl)

allowed_blocks : (allows (Block 0) 1 ≡ true) × (allows (Block 0) 2 ≡ false)
allowed_blocks = (refl, refl)

allowed_inflows : (allows (Inflow 0) 65536 ≡ true) × (allows (Inflow 0) 65537 ≡ false)
allowed_inflows = (refl, refl)

allowed_watches : (allows (Watch 0) 1 ≡ true) × (allows (Watch 0) 2 ≡ false)
allowed_watches = (refl, refl)

allowed_starts : (allows (Start 0) 65536 ≡ true) × (allows (Start 0) 65537 ≡ false)
allowed_starts = (refl, refl)

zones_of_small : (is_in_plan small (Limit 0) ≡ true) × (is_in_plan small (Slow 1) ≡ false)
zones_of_small = (refl, refl)

cells_of_small : (is_in_plan small (Block 11) ≡ true) × (is_in_plan small (Block 12) ≡ false)
cells_of_small = (refl, refl)

inlets_of_small : (is_in_plan small (Inflow 0) ≡ true) × (is_in_plan small (Inflow 1) ≡ false)
inlets_of_small = (refl, refl)

detectors_of_small : (is_in_plan small (Watch 0) ≡ true) × (is_in_plan small (Watch 1) ≡ false)
detectors_of_small = (refl, refl)

starts_of_small : (is_in_plan small (Start 0) ≡ true) × (is_in_plan small (Start 1) ≡ false)
starts_of_small = (refl, refl)

numbers_of_small : (default small (Limit 0) ≡ Some 2) × (default small (Slow 0) ≡ Some 0) × (default small (Inflow 0) ≡ Some 65536)
numbers_of_small = (refl, refl, refl)

states_of_small : (default small (Block 3) ≡ Some 0) × (default small (Watch 0) ≡ Some 1)
states_of_small = (refl, refl)

-- ---- the other limits of the laboratory

most_replicas : limits.MOST_REPLICAS ≡ 64
most_replicas = refl

last_edit_step : limits.LAST_EDIT_STEP ≡ 1048575
last_edit_step = refl

greatest_horizon : limits.GREATEST_HORIZON ≡ 1048576
greatest_horizon = refl

greatest_count : limits.GREATEST_COUNT ≡ 281474976710656
greatest_count = refl

first_import_number : limits.FIRST_IMPORT_NUMBER ≡ 64
first_import_number = refl

most_sessions : limits.MOST_SESSIONS ≡ 8
most_sessions = refl

most_workers : limits.MOST_WORKERS ≡ 16
most_workers = refl

most_rows : limits.MOST_ROWS ≡ 1024
most_rows = refl

longest_line : limits.LONGEST_LINE ≡ 65536
longest_line = refl

most_lines : limits.MOST_LINES ≡ 1000000
most_lines = refl

most_bytes : limits.MOST_BYTES ≡ 4294967296
most_bytes = refl
