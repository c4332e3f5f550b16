-- The settings that a run keeps from one step to the next.
use Rattle.std.specs.Prelude.{◌≡◌, ◌≤◌, ◌<◌, ℕ}
use Rattle.std.specs.declared.option.Option.TheVariants.{Some}
use Rattle.std.specs.Arc.{arc_value}
use Rattle.road_plan.specs.Plan.{Plan}
use Rattle.road_plan.specs.Settings.{Settings, Fits}
use Rattle.road_scenario.specs.Edits.{Edits}
use Rattle.road_scenario.specs.Settings.{settings_of}
use Rattle.road_sheet.specs.declared.settings_cache.InForce.{InForce}
use Rattle.road_sheet.specs.declared.settings_cache.SettingsCache.{SettingsCache}

-- settings fit the plan, and are those of each step from `from` to before `until`
pub record AreInForce (plan : Plan) (edits : Edits) (settings : Settings) (from until : ℕ) : Type 0 where
  pub fits : Fits plan settings
  pub in_force : (t : ℕ) → from ≤ t → t < until → settings_of plan edits t ≡ settings

-- if settings are cached, they are those of the steps for which they are kept
pub record AreCached (plan : Plan) (edits : Edits) (cache : SettingsCache) : Type 0 where
  pub last : (kept : InForce) → cache.last ≡ Some kept
      → AreInForce plan edits (arc_value kept.settings) kept.from kept.until
