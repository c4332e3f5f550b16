-- The code counts the items as the definition does.
use Rattle.std.proofs.Common.{ℕ, List, ◌==◌, length, sym, ap, ◌∙◌}
use Rattle.serde_json.specs.declared.value.Value.{Value}
use Rattle.road_format.specs.Fields.{has_count}
use Rattle.road_format.proofs.JsonParts.{item_count-items_view}
use Rattle.road_format.proofs.fields.has_items.Goals as goal

pub returns-in-Some : goal.returns-in-Some
returns-in-Some c =
    ap (λ (vs : List Value). length vs == c.args.count) c.as_slice.ensures.value
    ∙ ap (λ (n : ℕ). n == c.args.count) (sym (item_count-items_view c.in-Some.items.now.items))
    ∙ ap (has_count c.args.count) c.in-Some.ensures
