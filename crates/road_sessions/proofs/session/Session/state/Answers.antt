-- The road is that of the sheet that the session has seen.
use Rattle.std.proofs.Common.{◌∙◌, ap, sym}
use Rattle.road_sheet.specs.Sheets.{Sheet, state_fault, state_of}
use Rattle.road_sessions.proofs.session.Session.state.Goals as goal

pub returns-in-Ok-clause-road : goal.returns-in-Ok-clause-road
returns-in-Ok-clause-road g c = c.in-Ok.ensures.state ∙ ap (λ (s : Sheet). state_of s c.args.step) (c.deref.ensures ∙ c.in_ok-sheet.ensures.sheet)

pub returns-in-Ok-clause-accepted : goal.returns-in-Ok-clause-accepted
returns-in-Ok-clause-accepted g c =
    sym (ap (λ (s : Sheet). state_fault s c.args.step) (c.deref.ensures ∙ c.in_ok-sheet.ensures.sheet)) ∙ c.in-Ok.ensures.accepted
