-- A plan of a road, as contracts see it.
use Rattle.std.specs.Prelude.{◌≡◌, ℕ, ◌+◌, ◌-◌, ◌/◌, ◌<◌, ◌≤◌, List, length, map, nat_eq}
use Rattle.std.specs.List.{All, IsDistinct}
use Rattle.road_plan.specs.declared.parts.WordKind.{WordKind}
use Rattle.road_plan.specs.declared.parts.PlanParts.{PlanParts}
use Rattle.road_plan.specs.declared.limits.TheConstants.{LEAST_LENGTH, GREATEST_LENGTH, GREATEST_EXIT}
use Rattle.road_plan.specs.declared.limits.TheConstants.{MOST_ZONES, MOST_INLETS, MOST_DETECTORS}
use Rattle.road_plan.specs.declared.limits.TheConstants.{GREATEST_LIMIT, CERTAIN}

-- a plan: a road of `cells` cells, the last `exit` of them the deleted zone; zones of `width` cells, each with its
-- speed limit in cells per step and its slowing chance in 1/65,536; inlets, each with its cell and its inflow chance in
-- 1/65,536; detectors, each with its site; and where the random words come from
pub record Plan : Type 0 where
  pub cells : ℕ
  pub exit : ℕ
  pub width : ℕ
  pub zones : List (ℕ × ℕ)
  pub inlets : List (ℕ × ℕ)
  pub detectors : List ℕ
  pub words : WordKind

-- the plan that these parts make
abbrev pub plan_of : PlanParts → Plan
plan_of parts = record {
  cells = parts.length;
  exit = parts.exit;
  width = parts.width;
  zones = parts.zones.items;
  inlets = parts.inlets.items;
  detectors = parts.detectors.items;
  words = parts.words;
}

-- the first cell of the deleted zone: cars at this cell or past it are deleted
abbrev pub exit_start : Plan → ℕ
exit_start p = p.cells - p.exit

-- the number of the zone in which a cell lies
abbrev pub zone_of : Plan → ℕ → ℕ
zone_of p c = c / p.width

-- a plan is within the limits of the laboratory: it has a road with a deleted zone at its end; one entry for each zone
-- up to that of the last cell; inlets at different cells before the deleted zone; detectors past the first cell and
-- before the deleted zone; and allowed speed limits, slowing chances and inflows
pub record IsWithinLimits (p : Plan) : Type 0 where
  pub long_enough : LEAST_LENGTH ≤ p.cells
  pub short_enough : p.cells ≤ GREATEST_LENGTH
  pub has_exit : 0 < p.exit
  pub exit_short : p.exit ≤ GREATEST_EXIT
  pub exit_on_road : p.exit < p.cells
  pub wide : 0 < p.width
  pub few_zones : length p.zones ≤ MOST_ZONES
  pub zone_each : length p.zones ≡ zone_of p (p.cells - 1) + 1
  pub some_inlet : 0 < length p.inlets
  pub few_inlets : length p.inlets ≤ MOST_INLETS
  pub inlets_apart : IsDistinct nat_eq (map (λ inlet. inlet.0) p.inlets)
  pub inlets_before_exit : All (λ inlet. inlet.0 < exit_start p) p.inlets
  pub few_detectors : length p.detectors ≤ MOST_DETECTORS
  pub sites_after_start : All (λ site. 0 < site) p.detectors
  pub sites_before_exit : All (λ site. site < exit_start p) p.detectors
  pub speed_limits_allowed : All (λ zone. zone.0 ≤ GREATEST_LIMIT) p.zones
  pub chances_allowed : All (λ zone. zone.1 ≤ CERTAIN) p.zones
  pub inflows_allowed : All (λ inlet. inlet.1 ≤ CERTAIN) p.inlets
