-- The settings in force and the road at the horizon make the next input.
use Rattle.std.proofs.Common.{◌≡◌, ◌∙◌, ap}
use Rattle.std.specs.Arc.{arc_value}
use Rattle.std.proofs.lemmas.Result.{IfOk-weaker}
use Rattle.road_ends.specs.Input.{input_of}
use Rattle.road_scenario.specs.Settings.{settings_of}
use Rattle.road_sheet.specs.Sheets.{Sheet, next_input, state_of}
use Rattle.road_sheet.proofs.RunStates.{next_is}
use Rattle.road_sheet.proofs.sheet.Sheet.next_input.Goals as goal

pub returns : goal.returns
returns c =
    let s = c.args.self.now in
    let step = c.horizon-step.result in
    let plan = arc_value c.self.inside.plan in
    let settings = c.in_ok-settings.settings in
    let here = c.horizon-step.ensures.horizon in
    let same = ap (λ (x : Sheet). x.plan) c.self.view_is in
    let last = c.self.invariant.at_horizon ∙ ap (λ (x : Sheet). state_of x x.horizon) c.self.view_is in
    let now = c.in_ok-settings.ensures.made ∙ (λ i. settings_of ((c.deref.ensures ∙ same) i) (c.scenario.ensures.scenario i) (here i)) in
    IfOk-weaker c.enter.result (λ input. arc_value input ≡ input_of plan settings step c.self.inside.at_horizon) (λ input. arc_value input ≡ next_input s)
    (λ input is. is ∙ next_is s plan settings step c.self.inside.at_horizon same now here last) c.enter.ensures
