-- The input of the step after a sheet's horizon.
use Rattle.std.proofs.Common.{◌≡◌, ◌∙◌, ℕ, ap}
use Rattle.road_plan.specs.Plan.{Plan}
use Rattle.road_plan.specs.Settings.{Settings}
use Rattle.road_cells.specs.Array.{Array}
use Rattle.road_ends.specs.Input.{input_of}
use Rattle.road_scenario.specs.Settings.{settings_of}
use Rattle.road_sheet.specs.Sheets.{Sheet, state_of, next_input}

-- the input of the next step, by its parts
pub next_is : (s : Sheet) (plan : Plan) (settings : Settings) (step : ℕ) (last : Array) → plan ≡ s.plan → settings ≡ settings_of s.plan s.edits s.horizon → step ≡ s.horizon → last ≡ state_of s s.horizon
    → input_of plan settings step last ≡ next_input s
next_is s plan settings step last p u h l =
    ap (λ (x : Plan). input_of x settings step last) p ∙ ap (λ (x : Settings). input_of s.plan x step last) u
    ∙ ap (λ (x : ℕ). input_of s.plan (settings_of s.plan s.edits s.horizon) x last) h ∙ ap (λ (x : Array). input_of s.plan (settings_of s.plan s.edits s.horizon) s.horizon x) l
