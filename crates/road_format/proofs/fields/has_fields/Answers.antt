-- The code counts the fields as the definition does.
use Rattle.std.proofs.Common.{ℕ, ◌==◌, sym, ap, ◌∙◌}
use Rattle.serde_json.specs.View.{view}
use Rattle.road_format.specs.Fields.{has_members}
use Rattle.road_format.proofs.JsonParts.{member_count-members_of}
use Rattle.road_format.proofs.fields.has_fields.Goals as goal

pub returns-in-Some : goal.returns-in-Some
returns-in-Some c =
    ap (λ (n : ℕ). n == c.args.count) (c.len.ensures.len ∙ sym (member_count-members_of view c.in-Some.fields.now.entries))
    ∙ ap (has_members c.args.count) c.in-Some.ensures
