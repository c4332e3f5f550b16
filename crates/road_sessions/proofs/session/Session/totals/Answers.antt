-- The totals are those of the sheet that the session has seen.
use Rattle.std.proofs.Common.{◌∙◌, ap, sym}
use Rattle.road_sheet.specs.Sheets.{Sheet, total_of, totals_fault}
use Rattle.road_sessions.proofs.session.Session.totals.Goals as goal

pub returns-in-Ok-clause-totals : goal.returns-in-Ok-clause-totals
returns-in-Ok-clause-totals g c =
    c.in-Ok.ensures.totals ∙ ap (λ (s : Sheet). total_of s c.args.detector c.args.from c.args.to) (c.deref.ensures ∙ c.in_ok-sheet.ensures.sheet)

pub returns-in-Ok-clause-accepted : goal.returns-in-Ok-clause-accepted
returns-in-Ok-clause-accepted g c =
    sym (ap (λ (s : Sheet). totals_fault s c.args.detector c.args.from c.args.to) (c.deref.ensures ∙ c.in_ok-sheet.ensures.sheet)) ∙ c.in-Ok.ensures.accepted
