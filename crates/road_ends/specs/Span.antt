-- Several steps under the same settings.
use Rattle.std.specs.Prelude.{◌≡◌, ℕ, ◌+◌, ◌-◌}
use Rattle.road_plan.specs.Plan.{Plan}
use Rattle.road_plan.specs.Settings.{Settings}
use Rattle.road_cells.specs.Array.{Array}
use Rattle.road_ends.specs.Entries.{road_with_entries}
use Rattle.road_ends.specs.Input.{StepInput}
use Rattle.road_ends.specs.Laws.{AgreeNear}
use Rattle.road_ends.specs.Run.{road_after_steps}

-- steps of a plan, one after another, under the same settings: the first step, and the number of steps
pub record Span : Type 0 where
  pub plan : Plan
  pub settings : Settings
  pub step : ℕ
  pub steps : ℕ

-- the road after the steps of a span, from the road before them
abbrev pub span_road : Span → Array → Array
span_road span a = road_after_steps span.plan (λ _. span.settings) span.step span.steps a

-- an input of a span has the plan and settings of the span
pub record IsOfSpan (span : Span) (input : StepInput) : Type 0 where
  pub plan : input.plan ≡ span.plan
  pub settings : input.settings ≡ span.settings

-- an input near a stretch, after k steps of a span from a road: it is the input of the next step at all cells that can
-- matter to the cells from lo to before hi in the remaining steps
pub record IsInputNear (lo hi : ℕ) (span : Span) (k : ℕ) (a : Array) (input : StepInput) : Type 0 where
  pub of_span : IsOfSpan span input
  pub step : input.step ≡ span.step + k
  pub road : AgreeNear (span.steps - k) lo hi input.road (road_with_entries span.plan span.settings (span.step + k) a)
