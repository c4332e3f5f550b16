-- Laws of the free cells in front of a cell.
use Rattle.std.specs.Prelude.{◌≡◌, ℕ, zero, suc, ◌+◌, ◌-◌, ◌<◌, ◌≤◌, ◌||◌, min, Bool, true, false, not, cond, refl}
use Rattle.std.proofs.Common.{sym, ap, ◌∙◌, arith}
use Rattle.road_cells.specs.Gap.{free_before}

-- one turn of the search
free_before-suc : (test : ℕ → Bool) (c n : ℕ) → free_before test c (suc n) ≡ cond (not (test c)) (1 + free_before test (c + 1) n) 0
unfolding free_before
free_before-suc test c n = refl

free_before-zero : (test : ℕ → Bool) (c : ℕ) → free_before test c 0 ≡ 0
unfolding free_before
free_before-zero test c = refl

-- nothing is free before a cell that passes
pub free_before-taken : (test : ℕ → Bool) (c n : ℕ) → test c ≡ true → free_before test c (suc n) ≡ 0
free_before-taken test c n taken = free_before-suc test c n ∙ ap (λ b. cond (not b) (1 + free_before test (c + 1) n) 0) taken

-- a cell that does not pass is free, and then the cells after it count
pub free_before-free : (test : ℕ → Bool) (c n : ℕ) → test c ≡ false → free_before test c (suc n) ≡ 1 + free_before test (c + 1) n
free_before-free test c n free = free_before-suc test c n ∙ ap (λ b. cond (not b) (1 + free_before test (c + 1) n) 0) free

-- no more are free than the limit
pub free_before-most : (test : ℕ → Bool) (c n : ℕ) → free_before test c n ≤ n
free_before-most test c zero = let none = free_before-zero test c in omega arith
free_before-most test c (suc n) = elim (test c) as (λ b. test c ≡ b → free_before test c (suc n) ≤ suc n) [
  | true ↦ λ taken. let is = free_before-taken test c n taken in omega arith
  | false ↦ λ free. let is = free_before-free test c n free in let rest = free_before-most test (c + 1) n in omega arith
] refl

-- the first cell that passes is no later than any cell that does
pub free_before-le : (test : ℕ → Bool) (n c d : ℕ) → c ≤ d → test d ≡ true → free_before test c n ≤ d - c
free_before-le test zero c d le taken = let none = free_before-zero test c in omega arith
free_before-le test (suc n) c d le taken = elim (test c) as (λ b. test c ≡ b → free_before test c (suc n) ≤ d - c) [
  | true ↦ λ here. let is = free_before-taken test c n here in omega arith
  | false ↦ λ here.
      let is = free_before-free test c n here in
      let apart : ¬ (c ≡ d) = λ same. let both : true ≡ false = sym taken ∙ ap test (sym same) ∙ here in cc in
      let rest : free_before test (c + 1) n ≤ d - (c + 1) = free_before-le test n (c + 1) d (omega arith) taken in
      omega arith
] refl

-- tests that agree on the searched cells give the same count
pub free_before-same : (f g : ℕ → Bool) (n c : ℕ) → ((k : ℕ) → c ≤ k → k < c + n → f k ≡ g k) → free_before f c n ≡ free_before g c n
free_before-same f g zero c same = free_before-zero f c ∙ sym (free_before-zero g c)
free_before-same f g (suc n) c same =
    free_before-suc f c n
    ∙ (λ i. cond (not (same c (omega arith) (omega arith) i)) (1 + free_before-same f g n (c + 1) (λ k le lt. same k (omega arith) (omega arith)) i) 0)
    ∙ sym (free_before-suc g c n)

-- the count if the first cell that passes is known
pub free_before-first : (test : ℕ → Bool) (n c d : ℕ) → c ≤ d → ((k : ℕ) → c ≤ k → k < d → test k ≡ false) → test d ≡ true → free_before test c n ≡ min n (d - c)
free_before-first test zero c d le below taken = let none = free_before-zero test c in omega arith
free_before-first test (suc n) c d le below taken = elim (test c) as (λ b. test c ≡ b → free_before test c (suc n) ≡ min (suc n) (d - c)) [
  | true ↦ λ here.
      let is = free_before-taken test c n here in
      let at : d ≤ c = (let apart : c < d → ⊥ = λ lt. let both : true ≡ false = sym here ∙ below c (omega arith) lt in cc in omega arith) in
      omega arith
  | false ↦ λ here.
      let is = free_before-free test c n here in
      let apart : ¬ (c ≡ d) = λ same. let both : true ≡ false = sym taken ∙ ap test (sym same) ∙ here in cc in
      let rest : free_before test (c + 1) n ≡ min n (d - (c + 1)) = free_before-first test n (c + 1) d (omega arith) (λ k le lt. below k (omega arith) lt) taken in
      omega arith
] refl

-- the count if no cell passes
pub free_before-none : (test : ℕ → Bool) (n c : ℕ) → ((k : ℕ) → c ≤ k → k < c + n → test k ≡ false) → free_before test c n ≡ n
free_before-none test zero c none = free_before-zero test c
free_before-none test (suc n) c none =
    let rest : free_before test (c + 1) n ≡ n = free_before-none test n (c + 1) (λ k le lt. none k (omega arith) (omega arith)) in
    free_before-free test c n (none c (omega arith) (omega arith)) ∙ (omega arith)

-- the first cell that passes one of two tests
pub free_before-or : (f g : ℕ → Bool) (n c : ℕ) → free_before (λ k. f k || g k) c n ≡ min (free_before f c n) (free_before g c n)
free_before-or f g zero c =
    let both = free_before-zero (λ k. f k || g k) c in let one = free_before-zero f c in let other = free_before-zero g c in omega arith
free_before-or f g (suc n) c =
    let rest = free_before-or f g n (c + 1) in
    let both = free_before-suc (λ k. f k || g k) c n in let one = free_before-suc f c n in let other = free_before-suc g c n in
    both ∙ split (f c) (g c) rest ∙ (λ i. min (sym one i) (sym other i))
  where
    split : (b d : Bool) → free_before (λ k. f k || g k) (c + 1) n ≡ min (free_before f (c + 1) n) (free_before g (c + 1) n)
        → cond (not (b || d)) (1 + free_before (λ k. f k || g k) (c + 1) n) 0 ≡ min (cond (not b) (1 + free_before f (c + 1) n) 0) (cond (not d) (1 + free_before g (c + 1) n) 0)
    split true true rest = refl
    split true false rest = omega arith
    split false true rest = omega arith
    split false false rest = omega arith
