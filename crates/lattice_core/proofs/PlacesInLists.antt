-- The elements of a list at a place, before it and after it.
use Rattle.std.specs.Prelude.{◌≡◌, ℕ, zero, suc, ◌<◌, ◌≤◌, ◌-◌, List, [], ◌∷◌, ◌++◌, length, take}
use Rattle.std.proofs.Common.{arith, refl, ap, drop}
use Rattle.std.specs.List.{AllByRecursion, insert, slice_index_or, slice_set}

module _ {X : Type 0} where
  -- a list is the elements before a place, the element there, and the elements after it
  pub parted : (xs : List X) (i : ℕ) (d : X) → i < length xs → xs ≡ take i xs ++ slice_index_or xs i d ∷ drop (suc i) xs
  parted [] i d h = absurd (omega (arith, h))
  parted (x ∷ xs) zero d h = refl
  parted (x ∷ xs) (suc i) d h = ap (λ ys. x ∷ ys) (parted xs i d (omega (arith, h)))

  -- an element set at a place is between the same elements as before
  pub parted-set : (xs : List X) (i : ℕ) (y : X) → i < length xs → slice_set xs i y ≡ take i xs ++ y ∷ drop (suc i) xs
  parted-set [] i y h = absurd (omega (arith, h))
  parted-set (x ∷ xs) zero y h = refl
  parted-set (x ∷ xs) (suc i) y h = ap (λ ys. x ∷ ys) (parted-set xs i y (omega (arith, h)))

  -- the default does not matter at a place within the list
  pub same-default : (xs : List X) (i : ℕ) (d e : X) → i < length xs → slice_index_or xs i d ≡ slice_index_or xs i e
  same-default [] i d e h = absurd (omega (arith, h))
  same-default (x ∷ xs) zero d e h = refl
  same-default (x ∷ xs) (suc i) d e h = same-default xs i d e (omega (arith, h))

  module _ (P : X → Type 0) where
    pub all-drop : (i : ℕ) (xs : List X) → AllByRecursion P xs → AllByRecursion P (drop i xs)
    all-drop zero xs a = a
    all-drop (suc i) [] a = tt
    all-drop (suc i) (x ∷ xs) a = all-drop i xs a.1

    pub all-at : (xs : List X) (i : ℕ) (d : X) → i < length xs → AllByRecursion P xs → P (slice_index_or xs i d)
    all-at [] i d h a = absurd (omega (arith, h))
    all-at (x ∷ xs) zero d h a = a.0
    all-at (x ∷ xs) (suc i) d h a = all-at xs i d (omega (arith, h)) a.1

    pub all-set : (xs : List X) (i : ℕ) (y : X) → P y → AllByRecursion P xs → AllByRecursion P (slice_set xs i y)
    all-set [] i y p a = a
    all-set (x ∷ xs) zero y p a = (p, a.1)
    all-set (x ∷ xs) (suc i) y p a = (a.0, all-set xs i y p a.1)

    pub all-insert : (xs : List X) (i : ℕ) (y : X) → P y → AllByRecursion P xs → AllByRecursion P (insert xs i y)
    all-insert [] zero y p a = (p, tt)
    all-insert [] (suc i) y p a = (p, tt)
    all-insert (x ∷ xs) zero y p a = (p, a)
    all-insert (x ∷ xs) (suc i) y p a = (a.0, all-insert xs i y p a.1)

-- ---- counts that determine a place

-- a positive count is one more than its last place
pub last-place : (n m : ℕ) → n ≡ m → 0 < n → m ≡ suc (n - 1)
last-place n m e h = omega (arith, e, h)

pub some-if-not-zero : (n : ℕ) → (n ≡ 0 → ⊥) → 0 < n
some-if-not-zero zero h = absurd (h refl)
some-if-not-zero (suc n) h = omega arith

pub zero-if-not-some : (n : ℕ) → n ≤ 0 → n ≡ 0
zero-if-not-some n h = omega (arith, h)
