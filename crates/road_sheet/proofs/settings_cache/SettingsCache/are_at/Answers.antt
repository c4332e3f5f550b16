-- Settings that are in force at two steps are those of both.
use Rattle.std.proofs.Common.{◌∙◌, sym}
use Rattle.road_sheet.proofs.settings_cache.SettingsCache.are_at.Goals as goal

pub returns-then-is_at : goal.returns-then-is_at
returns-then-is_at c = λ plan edits cached is_other.
    let here = c.is_at.ensures c.if-is_at.true in
    let there = c.is_at-then-is_at.ensures is_other in
    let kept = cached.last c.in-Some.kept c.in-Some.is in
    kept.in_force c.args.step here.0 here.1 ∙ sym (kept.in_force c.args.other there.0 there.1)
