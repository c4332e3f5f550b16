-- The plan's own settings fit the plan.
use Rattle.std.proofs.Common.{arith, ◌≡◌, ◌≤◌, []}
use Rattle.std.specs.List.Sorted.{IsStrictlyIncreasing}
use Rattle.std.proofs.lemmas.List.{length-map}
use Rattle.std.proofs.lemmas.List.Elements.{All-map, All-nil}
use Rattle.road_plan.specs.Plan.{Plan, IsWithinLimits}
use Rattle.road_plan.specs.Settings.{Settings, Fits, defaults}
use Rattle.road_plan.specs.declared.limits.TheConstants.{GREATEST_LIMIT, CERTAIN}

empty_rises : IsStrictlyIncreasing []
empty_rises k past = absurd (omega (arith, past))

defaults_fit : (p : Plan) → IsWithinLimits p → Fits p (defaults p)
defaults_fit p within = record {
  speed_limit_each = length-map p.zones _;
  speed_limits_allowed = All-map (λ limit. limit ≤ GREATEST_LIMIT) _ p.zones within.speed_limits_allowed;
  chance_each = length-map p.zones _;
  chances_allowed = All-map (λ chance. chance ≤ CERTAIN) _ p.zones within.chances_allowed;
  inflow_each = length-map p.inlets _;
  inflows_allowed = All-map (λ inflow. inflow ≤ CERTAIN) _ p.inlets within.inflows_allowed;
  blocks_rise = empty_rises;
  blocks_on_road = All-nil _;
  watch_each = length-map p.detectors _;
  start_each = length-map p.zones _;
  starts_allowed = All-map (λ chance. chance ≤ CERTAIN) _ p.zones within.chances_allowed;
}

-- settings that are equal to the plan's own fit it, too
pub own_settings_fit : (p : Plan) (s : Settings) → s ≡ defaults p → IsWithinLimits p → Fits p s
own_settings_fit p s own within = rw own (defaults_fit p within)
