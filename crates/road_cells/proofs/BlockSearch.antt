-- What a binary search among rising blocks finds.
use Rattle.std.specs.Prelude.{◌≡◌, ℕ, List, Result, Ok, Err, length, is_ok, slice_index}
use Rattle.std.specs.List.Sorted.{IsNonDecreasing, IsNonDecreasingBy, IsBinarySearchResult, IsSearchInRange}
use Rattle.std.specs.Ordering.{nat_cmp, ordering_index}
use Rattle.std.specs.declared.cmp.Ordering.TheVariants.{Less, Equal, Greater}
use Rattle.std.proofs.Common.{sym, ap, ◌∙◌, arith, inl, inr}
use Rattle.std.proofs.lemmas.Bool.{cases_lt}
use Rattle.std.proofs.lemmas.Bool.Decides.{nat_tests}
use Rattle.std.proofs.lemmas.List.Sorted.{IsNonDecreasingBy-from_default}
use Rattle.road_cells.specs.Gap.{is_blocked}
use Rattle.road_cells.proofs.CellsAhead.{not_blocked, blocked_at}

module _ (blocks : List ℕ) (cell : ℕ) (rising : IsNonDecreasing blocks) where
  answers_rise : IsNonDecreasingBy (λ block. ordering_index (nat_cmp block cell)) blocks
  answers_rise = IsNonDecreasingBy-from_default (λ block. ordering_index (nat_cmp block cell)) blocks 0 (λ i j le below. let rise = rising i j 0 le below in grind (arith, nat_tests))

  -- a search finds a cell exactly if it is blocked
  pub searched : (r : Result ℕ ℕ) → IsSearchInRange r (length blocks) → IsBinarySearchResult (λ block. nat_cmp block cell) blocks r → is_ok r ≡ is_blocked blocks cell
  searched (Ok place) in_list equal =
      let test : nat_cmp (slice_index blocks place) cell ≡ Equal = equal 0 in
      let at : slice_index blocks place ≡ cell = grind (arith, nat_tests) in
      sym (blocked_at blocks place in_list) ∙ ap (is_blocked blocks) at
  searched (Err place) in_list parted = let point = parted answers_rise in sym (not_blocked blocks cell (λ i below same. elim (cases_lt i place) as (λ _. ⊥) [
    | inl before ↦ let test : nat_cmp (slice_index blocks i) cell ≡ Less = point.0 i 0 (omega arith) before in grind (arith, nat_tests)
    | inr after ↦ let test : nat_cmp (slice_index blocks i) cell ≡ Greater = point.1 i 0 after below in grind (arith, nat_tests)
  ]))
