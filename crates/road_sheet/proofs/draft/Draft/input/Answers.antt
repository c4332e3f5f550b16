-- The next input of a draft is that of its sheet.
use Rattle.std.proofs.Common.{◌≡◌, subst, IfOk}
use Rattle.std.specs.Arc.{arc_value}
use Rattle.road_sheet.specs.Sheets.{Sheet, next_input}
use Rattle.road_sheet.proofs.draft.Draft.input.Goals as goal

pub returns-clause-input : goal.returns-clause-input
returns-clause-input c = subst (λ (s : Sheet). IfOk c.next_input.result (λ input. arc_value input ≡ next_input s)) c.self.view_is c.next_input.ensures
