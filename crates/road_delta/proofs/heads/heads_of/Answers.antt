-- The heads of winners rise, and a scenario without edits has none.
use Rattle.std.proofs.Common.{◌≡◌, map, sym, ap, subst, ◌∙◌}
use Rattle.std.proofs.lemmas.Bool.{true≢false}
use Rattle.lattice_core.specs.Sets.{items}
use Rattle.lattice_core.proofs.SetElements.{items-empty}
use Rattle.road_scenario.specs.Edits.{edit_cmp}
use Rattle.road_delta.specs.Deltas.{AreRisingHeads, head_of, heads}
use Rattle.road_delta.proofs.RisingHeads.{rising-heads}
use Rattle.road_delta.proofs.heads.heads_of.Goals as goal

pub invariant_of-result : goal.invariant_of-result
invariant_of-result c =
    let all : c.in_ok-list.list.items ≡ heads c.args.scenario.now = c.in_ok-list.ensures.heads ∙ ap (map head_of) (c.deref.ensures.value ∙ c.in_ok-edits.ensures.all) in
    subst AreRisingHeads (sym all) (rising-heads c.args.scenario.now c.edits.ensures.winners)

pub returns-in_err-list-clause-grows_nothing : goal.returns-in_err-list-clause-grows_nothing
returns-in_err-list-clause-grows_nothing c = λ none.
    let no_edits = c.deref.ensures.value ∙ c.in_ok-edits.ensures.all ∙ ap items none ∙ items-empty edit_cmp in
    absurd (true≢false (sym (c.in_err-list.ensures.grows_nothing no_edits)))
