-- A draft that refused a step is as before.
use Rattle.std.proofs.Common.{◌∙◌, ap, sym}
use Rattle.road_sheet.specs.Sheets.{next_input}
use Rattle.tests_failures.proofs.sheets.push.Goals as goal

pub push_again-requires-clause-input : goal.push_again-requires-clause-input
push_again-requires-clause-input c = c.requires.input ∙ ap next_input (sym c.in-Err.ensures.unchanged)
