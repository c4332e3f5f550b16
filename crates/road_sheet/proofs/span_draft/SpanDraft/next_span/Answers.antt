-- The settings in force at the horizon are those of each step of the span.
use Rattle.std.proofs.Common.{◌∙◌, ap, sym, arith}
use Rattle.std.specs.Arc.{arc_value}
use Rattle.road_ends.specs.Span.{Span}
use Rattle.road_scenario.specs.Settings.{settings_of}
use Rattle.road_sheet.specs.Sheets.{Sheet}
use Rattle.road_sheet.proofs.span_draft.SpanDraft.next_span.Goals as goal

pub returns-clause-next : goal.returns-clause-next
returns-clause-next c =
    let s = c.args.self.now in
    let d = c.self.inside in
    let at = ap (λ (x : Sheet). x.horizon) c.self.view_is in
    let plan = ap (λ (x : Sheet). x.plan) c.self.view_is in
    let steps = ap (λ (x : Span). x.steps) c.new.ensures in
    let end = c.min-end.ensures in
    let until = c.until-until.ensures.before in
    let some = c.until-until.ensures.some in
    record {
      plan = ap (λ (x : Span). x.plan) c.new.ensures ∙ c.in_ok-plan.ensures ∙ plan;
      step = ap (λ (x : Span). x.step) c.new.ensures ∙ at;
      some = omega (arith, steps, some);
      within_interval = omega (arith, steps, at, end, until, some);
      settings = λ t after early.
          (λ i. settings_of (sym plan i) (sym (ap (λ (x : Sheet). x.edits) c.self.view_is) i) t)
          ∙ c.until-until.ensures.same (arc_value d.plan) d.scenario c.in_ok-settings.ensures.cached t (omega (arith, after, at)) (omega (arith, early, steps, at, some))
          ∙ sym (ap (λ (x : Span). x.settings) c.new.ensures ∙ c.in_ok-settings.ensures.settings);
    }
