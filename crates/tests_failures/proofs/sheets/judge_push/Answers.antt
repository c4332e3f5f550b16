-- The input that a draft gave is that of its next step.
use Rattle.std.proofs.Common.{◌∙◌, ap, sym}
use Rattle.road_sheet.specs.Sheets.{next_input}
use Rattle.tests_failures.proofs.sheets.judge_push.Goals as goal

pub push-requires-clause-input : goal.push-requires-clause-input
push-requires-clause-input c = c.deref-2.ensures ∙ c.in-Ok.ensures.input ∙ ap next_input (sym c.in-Ok.ensures.unchanged)
