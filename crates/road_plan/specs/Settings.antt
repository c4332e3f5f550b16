-- All settings of a road at one step.
use Rattle.std.specs.Prelude.{◌≡◌, ℕ, ◌<◌, ◌≤◌, Bool, true, List, [], length, map}
use Rattle.std.specs.List.{All}
use Rattle.std.specs.List.Sorted.{IsStrictlyIncreasing}
use Rattle.road_plan.specs.Plan.{Plan}
use Rattle.road_plan.specs.declared.limits.TheConstants.{GREATEST_LIMIT, CERTAIN}

-- all settings of a road at one step: for each zone its speed limit and its slowing chance; for each inlet its inflow
-- chance; the blocked cells; for each detector whether it is on; and for each zone the slowing chance of standing cars
pub record Settings : Type 0 where
  pub limits : List ℕ
  pub chances : List ℕ
  pub inflows : List ℕ
  pub blocks : List ℕ
  pub watched : List Bool
  pub starts : List ℕ

-- settings fit a plan if they have one allowed number for each of its zones, inlets and detectors, and the blocked
-- cells rise and are on its road
pub record Fits (p : Plan) (s : Settings) : Type 0 where
  pub speed_limit_each : length s.limits ≡ length p.zones
  pub speed_limits_allowed : All (λ limit. limit ≤ GREATEST_LIMIT) s.limits
  pub chance_each : length s.chances ≡ length p.zones
  pub chances_allowed : All (λ chance. chance ≤ CERTAIN) s.chances
  pub inflow_each : length s.inflows ≡ length p.inlets
  pub inflows_allowed : All (λ inflow. inflow ≤ CERTAIN) s.inflows
  pub blocks_rise : IsStrictlyIncreasing s.blocks
  pub blocks_on_road : All (λ cell. cell < p.cells) s.blocks
  pub watch_each : length s.watched ≡ length p.detectors
  pub start_each : length s.starts ≡ length p.zones
  pub starts_allowed : All (λ chance. chance ≤ CERTAIN) s.starts

-- the plan's own settings: its numbers, no blocked cell, every detector on; standing cars are slowed like moving ones
abbrev pub defaults : Plan → Settings
defaults p = record {
  limits = map (λ zone. zone.0) p.zones;
  chances = map (λ zone. zone.1) p.zones;
  inflows = map (λ inlet. inlet.1) p.inlets;
  blocks = [];
  watched = map (λ site. true) p.detectors;
  starts = map (λ zone. zone.1) p.zones;
}
