-- An object has an only field if the code finds exactly one entry.
use Rattle.std.proofs.Common.{ℕ, List, Option, Some, sym, ap, ◌∙◌, arith}
use Rattle.serde_json.specs.Data.{Members}
use Rattle.serde_json.specs.View.{view}
use Rattle.road_format.specs.Fields.{◌>>=◌, only_member}
use Rattle.road_format.proofs.JsonParts.{only_member-one, only_member-other}
use Rattle.road_format.proofs.fields.only_field.Goals as goal

pub returns-then-len-ne1 : goal.returns-then-len-ne1
returns-then-len-ne1 c =
    sym (only_member-other c.in_ok-fields.fields.now.entries (omega (arith, c.len.ensures.len, c.if-len-ne1.true)))
    ∙ ap (λ (fields : Option Members). fields >>= only_member) c.in_ok-fields.ensures

pub returns : goal.returns
returns c =
    ap (λ (name : List ℕ). Some (name, view c.in_ok-name.value.now)) c.as_str.ensures.value
    ∙ sym (only_member-one c.in_ok-fields.fields.now.entries c.in_ok-name.name.now c.in_ok-name.value.now (omega (arith, c.len.ensures.len, c.if-len-ne1.false)) c.in_ok-name.ensures.first)
    ∙ ap (λ (fields : Option Members). fields >>= only_member) c.in_ok-fields.ensures
