-- The search among rising heads finds the head at an edit's place, or finds that there is none.
use Rattle.std.proofs.Common.{rules, sym, ◌∙◌}
use Rattle.std.proofs.lemmas.List.Sorted.{answers_always}
use Rattle.road_delta.proofs.HeadSearch.{answers_rise, found, absent, not_above}
use Rattle.road_delta.proofs.deltas.is_beyond.Goals as goal

pub returns-in-Ok : goal.returns-in-Ok
returns-in-Ok c =
    let hs = c.args.heads.now in
    let e = c.args.edit.now in
    let equal = c.in-Ok.ensures.position (λ head. (head.object, head.step)) (answers_always _ _ _ (λ f a r g called. search rules)) in
    c.le.ensures ∙ not_above _ e.stamp ∙ sym (found hs e c.requires c.in-Ok.found _ c.in-Ok.ensures.bound equal)

pub returns-in-Err : goal.returns-in-Err
returns-in-Err c =
    let hs = c.args.heads.now in
    let e = c.args.edit.now in
    let point = c.in-Err.ensures.position (λ head. (head.object, head.step)) (answers_always _ _ _ (λ f a r g called. search rules)) in
    sym (absent hs e c.requires c.in-Err.field-0 (point (answers_rise hs e c.requires)))
