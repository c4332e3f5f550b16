-- The edits that pass the test against the heads are the delta, which fits if its scenario does.
use Rattle.std.proofs.Common.{rules, sym, ap, subst, ◌∙◌}
use Rattle.std.specs.List.{filter}
use Rattle.std.proofs.lemmas.Fn.{filter_same}
use Rattle.std.proofs.lemmas.Result.{IfOk-weaker}
use Rattle.lattice_core.specs.Sets.{from_list, items}
use Rattle.lattice_core.proofs.SetElements.{from_list-items, items-empty}
use Rattle.road_scenario.specs.Faults.{AreInRange}
use Rattle.road_scenario.specs.Edits.{edit_cmp}
use Rattle.road_scenario.specs.Instances.EditOrder.{edit_total}
use Rattle.road_scenario.specs.Winners.{winners}
use Rattle.road_delta.specs.Deltas.{beyond, is_beyond}
use Rattle.road_delta.proofs.DeltaEdits.{from_list-beyond, winners-beyond, in_range-beyond}
use Rattle.road_delta.proofs.deltas.beyond.Goals as goal

pub returns-clause-delta : goal.returns-clause-delta
returns-clause-delta c =
    let t = c.args.scenario.now in
    let hs = c.args.heads.now in
    let kept = filter_same _ (is_beyond hs) _ (λ e b g called. search rules) _ _ c.retain.ensures.filtered in
    IfOk-weaker c.of_edits.result _ _ (λ made is. is ∙ ap (λ es. winners (from_list {R = edit_cmp} es)) (c.deref.ensures.value ∙ kept ∙ ap (filter (is_beyond hs)) c.in_ok-edits.ensures.all) ∙ ap winners (from_list-beyond (items t) hs ∙ ap (λ s. beyond s hs) (from_list-items edit_total t)) ∙ winners-beyond t hs c.edits.ensures.winners) c.of_edits.ensures.winners

pub returns-clause-fits : goal.returns-clause-fits
returns-clause-fits c = λ plan fits.
    IfOk-weaker c.of_edits.result _ _ (λ made is. subst (AreInRange plan) (sym is) (in_range-beyond plan c.args.scenario.now c.args.heads.now fits)) (returns-clause-delta c)

pub returns-clause-grows_nothing : goal.returns-clause-grows_nothing
returns-clause-grows_nothing c = λ none.
    let hs = c.args.heads.now in
    let kept = filter_same _ (is_beyond hs) _ (λ e b g called. search rules) _ _ c.retain.ensures.filtered in
    c.of_edits.ensures.grows_nothing (c.deref.ensures.value ∙ kept ∙ ap (filter (is_beyond hs)) (c.in_ok-edits.ensures.all ∙ ap items none ∙ items-empty edit_cmp))
