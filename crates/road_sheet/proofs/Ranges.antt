-- The numbers from one to before another, split in two, or with one more number.
use Rattle.std.proofs.Common.{◌≡◌, ◌≤◌, ◌+◌, ◌-◌, ◌∙◌, ℕ, zero, suc, List, [], ◌∷◌, ◌++◌, ap, arith}
use Rattle.std.specs.List.{range_with_len}
use Rattle.road_ends.proofs.CellsBetweenInlets.{range_with_len-append}

range-suc : (a n : ℕ) → range_with_len a (suc n) ≡ range_with_len a n ++ (a + n) ∷ []
range-suc a zero = let here : a ≡ a + 0 = omega arith in ap (λ (k : ℕ). k ∷ []) here
range-suc a (suc n) =
    let there : (a + 1) + n ≡ a + suc n = omega arith in
    ap (λ (ks : List ℕ). a ∷ ks) (range-suc (a + 1) n ∙ ap (λ (k : ℕ). range_with_len (a + 1) n ++ k ∷ []) there)

pub range-to : (a b : ℕ) → a ≤ b → range_with_len a (b + 1 - a) ≡ range_with_len a (b - a) ++ b ∷ []
range-to a b before =
    let count : b + 1 - a ≡ suc (b - a) = omega arith in
    let last : a + (b - a) ≡ b = omega arith in
    ap (range_with_len a) count ∙ range-suc a (b - a) ∙ ap (λ (k : ℕ). range_with_len a (b - a) ++ k ∷ []) last

pub range-append : (a m b : ℕ) → a ≤ m → m ≤ b → range_with_len a (b - a) ≡ range_with_len a (m - a) ++ range_with_len m (b - m)
range-append a m b before after =
    let count : b - a ≡ (m - a) + (b - m) = omega arith in
    let there : a + (m - a) ≡ m = omega arith in
    ap (range_with_len a) count ∙ range_with_len-append a (m - a) (b - m) ∙ ap (λ (k : ℕ). range_with_len a (m - a) ++ range_with_len k (b - m)) there
