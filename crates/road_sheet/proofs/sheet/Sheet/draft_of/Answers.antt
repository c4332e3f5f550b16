-- Up to the first touched step, the run of the joined scenario is that of the sheet.
use Rattle.std.proofs.Common.{◌∙◌, ap, subst, arith, ◌/◌, ◌*◌}
use Rattle.road_ends.specs.Laws.{DependOnEarlierSettings}
use Rattle.road_sheet.specs.Sheets.{Sheet}
use Rattle.road_sheet.proofs.SameRuns.{same_run}
use Rattle.road_sheet.proofs.SheetIntervals.{same_less}
use Rattle.road_sheet.proofs.sheet.Sheet.draft_of.Goals as goal

pub resume_at_horizon-requires-clause-same : goal.resume_at_horizon-requires-clause-same
resume_at_horizon-requires-clause-same c =
    let s = c.args.self.now in
    let same = same_run s.plan s.edits c.args.joined c.args.keep (subst DependOnEarlierSettings (c.deref.ensures ∙ ap (λ (x : Sheet). x.plan) c.self.view_is) c.runs_depend_on_earlier_settings.ensures)
    (c.settings_stay_before_touched.ensures s.plan s.edits c.args.joined) c.requires.untouched in
    same_less s.plan s.edits c.args.joined c.args.keep s.horizon (omega arith) same

pub resume_at_checkpoint-requires-clause-same : goal.resume_at_checkpoint-requires-clause-same
resume_at_checkpoint-requires-clause-same c =
    let s = c.args.self.now in
    let same = same_run s.plan s.edits c.args.joined c.args.keep (subst DependOnEarlierSettings (c.deref.ensures ∙ ap (λ (x : Sheet). x.plan) c.self.view_is) c.runs_depend_on_earlier_settings.ensures)
    (c.settings_stay_before_touched.ensures s.plan s.edits c.args.joined) c.requires.untouched in
    same_less s.plan s.edits c.args.joined c.args.keep (64 * (c.args.keep / 64)) (omega arith) same
