-- The search for two inlets at one cell.
use Rattle.std.proofs.Common.{arith, subst, ◌≡◌, ◌∙◌, ap, refl, ℕ, ◌≤◌, Bool, true, false, not, cond, ◌&&◌, ◌||◌, List, [], ◌∷◌, length, map, nat_eq}
use Rattle.std.specs.Prelude.{◌==◌}
use Rattle.std.specs.List.{list_any}
use Rattle.std.specs.Set.{distinct_count, unique_keys}
use Rattle.std.proofs.lemmas.Bool.Decides.{nat_tests}
use Rattle.std.proofs.lemmas.List.{length-map}
use Rattle.std.proofs.lemmas.Map.Made.{distinct_count-le}

-- a test of the mapped list is a test of the list
pub any_mapped : {X Y : Type 0} (test : Y → Bool) (f : X → Y) (xs : List X) → list_any test (map f xs) ≡ list_any (λ x. test (f x)) xs
any_mapped test f [] = refl
any_mapped test f (x ∷ xs) = ap (λ rest. test (f x) || rest) (any_mapped test f xs)

-- one more number is one more different number if it is not among the others
one_more : {X : Type 0} (among : Bool) (n : ℕ) (unique : List ℕ) (x : X) (others : List X) → length unique ≤ length others → (length (cond among unique (n ∷ unique)) == length (x ∷ others)) ≡ (not among && (length unique == length others))
one_more true n unique x others few = grind (arith, nat_tests)
one_more false n unique x others few = grind (arith, nat_tests)

-- the cells of the inlets differ if no other inlet is at the first one's cell, and the cells of the others differ
pub cells_differ : (inlets : List (ℕ × ℕ)) (first : ℕ × ℕ) (others : List (ℕ × ℕ)) → inlets ≡ first ∷ others → (distinct_count nat_eq (map (λ inlet. inlet.0) inlets) == length inlets) ≡ (not (list_any (λ inlet. nat_eq first.0 inlet.0) others) && (distinct_count nat_eq (map (λ inlet. inlet.0) others) == length others))
cells_differ inlets first others is =
    let cells : List ℕ = map (λ inlet. inlet.0) others in
    let few : distinct_count nat_eq cells ≤ length others = subst (λ n. distinct_count nat_eq cells ≤ n) (length-map others (λ inlet. inlet.0)) (distinct_count-le nat_eq cells) in
    rw is (one_more (list_any (nat_eq first.0) cells) first.0 (unique_keys nat_eq cells) first others few
    ∙ ap (λ among. not among && (distinct_count nat_eq cells == length others)) (any_mapped (nat_eq first.0) (λ inlet. inlet.0) others))
