-- Names whose first is repeated among the others are not all different.
use Rattle.std.proofs.Common.{◌≡◌, ◌==◌, ◌&&◌, not, ap, sym, ◌∙◌, Bool, true, length, string_bytes, ℕ, List}
use Rattle.std.specs.List.{list_any}
use Rattle.std.specs.Set.{distinct_count}
use Rattle.std.specs.Str.{bytes_eq}
use Rattle.road_format.specs.Views.{texts}
use Rattle.road_format.proofs.AcceptedNames.{first_and_others}
use Rattle.road_format.proofs.names.+are_different.Goals as goal

pub returns-else-not-is_among : goal.returns-else-not-is_among
returns-else-not-is_among t c =
    let first = c.in-Some.first.now in
    let others = c.in-Some.others.now in
    let here : list_any (bytes_eq (string_bytes first)) (texts others) ≡ true = sym (c.if-not-is_among.ensures ∙ ap (λ (text : List ℕ). list_any (bytes_eq text) (texts others)) c.deref.ensures) in
    ap not c.if-not-is_among.false
    ∙ sym (first_and_others c.args.names.now first others c.in-Some.ensures.cases.0 ∙ ap (λ (among : Bool). not among && (distinct_count bytes_eq (texts others) == length (texts others))) here)
