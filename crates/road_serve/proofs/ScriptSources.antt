-- The source made from a file.
use Rattle.std.proofs.Common.{◌≡◌, ◌∙◌, ℕ, List, Bool, false, Option, ap}
use Rattle.road_serve.specs.StreamViews.{SourceView}

-- a source, given its parts
abbrev source_with : Option (List ℕ) → Bool → ℕ → SourceView
source_with remaining at_end failures = record { remaining = remaining; at_end = at_end; failures = failures }

-- a source from which nothing was read is determined by its remaining bytes
pub source_is : (source : SourceView) (remaining : Option (List ℕ)) → source.remaining ≡ remaining → source.at_end ≡ false → source.failures ≡ 0
    → source ≡ record { remaining = remaining; at_end = false; failures = 0 }
source_is source remaining left going well =
    ap (λ (x : Option (List ℕ)). source_with x source.at_end source.failures) left ∙ ap (λ (x : Bool). source_with remaining x source.failures) going
    ∙ ap (λ (x : ℕ). source_with remaining false x) well
