-- A vector that is written through a slice.
use Rattle.std.specs.Prelude.{◌≡◌, List, Vec, length}
use Rattle.std.specs.Vec.{with_items}
use Rattle.std.proofs.Common.{sym, ap, ◌∙◌}
use Rattle.std.proofs.lemmas.List.{with_items_is}

-- it has the written values, and as many as before
pub refilled : {X Z : Type 0} (v : Vec X Z) (old ws : List X) → old ≡ v.items → length ws ≡ length old → (with_items v ws).items ≡ ws
refilled v old ws is same = with_items_is v ws (same ∙ ap length is ∙ sym v.ok.0)
