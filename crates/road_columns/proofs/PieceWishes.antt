-- The cars of a piece want the same speeds as if no car had moved yet: the loop goes from the near end on, so the cars
-- in front have not moved.
use Rattle.std.specs.Prelude.{◌≡◌, ◌≢◌, ℕ, ◌+◌, ◌-◌, ◌<◌, ◌≤◌, List, min, nat_eq, slice_index, if◌then◌else◌}
use Rattle.std.proofs.Common.{sym, ap, ◌∙◌, arith, inl, inr, subst}
use Rattle.std.proofs.lemmas.Bool.{cases_eq}
use Rattle.std.proofs.lemmas.Bool.Decides.{nat_tests}
use Rattle.road_cells.specs.declared.car.TheConstants.{GREATEST_SPEED}
use Rattle.road_rules.specs.Speeds.{wanted_speed}
use Rattle.road_columns.specs.Private.LooseWords.{AreFalling}
use Rattle.road_columns.specs.Private.Pieces.{ahead_at, wanted_at}
use Rattle.road_columns.specs.Private.Regions.{wish_at}

pub at_first : (from front q c : ℕ) → q ≡ from → (if nat_eq q from then front else c) ≡ front
at_first from front q c same = grind (arith, nat_tests)

pub at_later : (from front q c : ℕ) → q ≢ from → (if nat_eq q from then front else c) ≡ c
at_later from front q c other = grind (arith, nat_tests)

module _ (from front limit end : ℕ) (cells old speeds olds : List ℕ) (same : (q : ℕ) → q < end → slice_index cells q ≡ slice_index old q)
    (same_speed : (q : ℕ) → q < end → slice_index speeds q ≡ slice_index olds q) where
  wish_by : (ahead ahead' q : ℕ) → q < end → ahead ≡ ahead' → wanted_speed (slice_index speeds q) limit (min GREATEST_SPEED (ahead - (slice_index cells q + 1)))
      ≡ wanted_speed (slice_index olds q) limit (min GREATEST_SPEED (ahead' - (slice_index old q + 1)))
  wish_by ahead ahead' q below is = λ i. wanted_speed (same_speed q below i) limit (min GREATEST_SPEED (is i - (same q below i + 1)))

  -- the same speeds in a piece behind a car
  pub wish_behind : (place q : ℕ) → from ≤ place → place < q → q < end → wanted_at (place + 1) (slice_index cells place) limit cells speeds q ≡ wanted_at from front limit old olds q
  wish_behind place q low above below = wish_by (ahead_at (place + 1) (slice_index cells place) cells q) (ahead_at from front old q) q below
      (elim (cases_eq q (place + 1)) as (λ _. ahead_at (place + 1) (slice_index cells place) cells q ≡ ahead_at from front old q) [
        | inl first ↦
            let is = at_first (place + 1) (slice_index cells place) q (slice_index cells (q - 1)) first in
            let back : place ≡ q - 1 = omega arith in
            is ∙ ap (slice_index cells) back ∙ same (q - 1) (omega arith) ∙ sym (at_later from front q (slice_index old (q - 1)) (omega arith))
        | inr other ↦
            at_later (place + 1) (slice_index cells place) q (slice_index cells (q - 1)) other ∙ same (q - 1) (omega arith) ∙ sym (at_later from front q (slice_index old (q - 1)) (omega arith))
      ])

  -- the same speed of one car
  pub wish_alone : (place q next : ℕ) → q ≡ place → q < end → next ≡ ahead_at from front old q → wanted_at place next limit cells speeds q ≡ wanted_at from front limit old olds q
  wish_alone place q next here below is = wish_by (ahead_at place next cells q) (ahead_at from front old q) q below
      (at_first place next q (slice_index cells (q - 1)) here ∙ is)

  -- the same speeds in the piece in front of all these cars
  pub wish_first : (q : ℕ) → from ≤ q → q < end → wanted_at from front limit cells speeds q ≡ wanted_at from front limit old olds q
  wish_first q low below = wish_by (ahead_at from front cells q) (ahead_at from front old q) q below
      (elim (cases_eq q from) as (λ _. ahead_at from front cells q ≡ ahead_at from front old q) [
        | inl first ↦ at_first from front q (slice_index cells (q - 1)) first ∙ sym (at_first from front q (slice_index old (q - 1)) first)
        | inr other ↦ at_later from front q (slice_index cells (q - 1)) other ∙ same (q - 1) (omega arith) ∙ sym (at_later from front q (slice_index old (q - 1)) other)
      ])

-- the cell that a car may not reach is the nearer of the cell of the car in front and the next blocked cell
pub ahead_region : (from front block q : ℕ) (cells : List ℕ) → from ≤ q → front ≡ min (slice_index cells (from - 1)) block → (from < q → slice_index cells (q - 1) < block)
    → ahead_at from front cells q ≡ min (slice_index cells (q - 1)) block
ahead_region from front block q cells low is below = elim (cases_eq q from) as (λ _. ahead_at from front cells q ≡ min (slice_index cells (q - 1)) block) [
  | inl same ↦ at_first from front q (slice_index cells (q - 1)) same ∙ is ∙ ap (λ j. min (slice_index cells (j - 1)) block) (sym same)
  | inr other ↦ at_later from front q (slice_index cells (q - 1)) other ∙ (let less = below (omega arith) in omega arith)
]

pub wish_region : (from front limit block q : ℕ) (cells speeds : List ℕ) → from ≤ q → front ≡ min (slice_index cells (from - 1)) block → (from < q → slice_index cells (q - 1) < block)
    → wanted_at from front limit cells speeds q ≡ wish_at limit block cells speeds q
wish_region from front limit block q cells speeds low is below =
    ap (λ ahead. wanted_speed (slice_index speeds q) limit (min GREATEST_SPEED (ahead - (slice_index cells q + 1)))) (ahead_region from front block q cells low is below)

-- equal cells and speeds give equal wanted speeds
pub wish_same : (limit block q : ℕ) (cells cells' speeds speeds' : List ℕ) → slice_index cells (q - 1) ≡ slice_index cells' (q - 1) → slice_index cells q ≡ slice_index cells' q
    → slice_index speeds q ≡ slice_index speeds' q → wish_at limit block cells speeds q ≡ wish_at limit block cells' speeds' q
wish_same limit block q cells cells' speeds speeds' ahead cell speed = λ i. wanted_speed (speed i) limit (min GREATEST_SPEED (min (ahead i) block - (cell i + 1)))

-- each car is before the one in front of it, and the first one is before the cell in front of all
pub falls : (head tail q : ℕ) (cells : List ℕ) → 0 < head → AreFalling cells head tail → (head < tail → slice_index cells head < slice_index cells (head - 1)) → head ≤ q → q < tail
    → slice_index cells q < slice_index cells (q - 1)
falls head tail q cells some falling front low high = elim (cases_eq q head) as (λ _. slice_index cells q < slice_index cells (q - 1)) [
  | inl same ↦ subst (λ k. slice_index cells k < slice_index cells (k - 1)) (sym same) (front (omega arith))
  | inr other ↦
      let back : (q - 1) + 1 ≡ q = omega arith in
      subst (λ k. slice_index cells k < slice_index cells (q - 1)) back (falling (q - 1) (omega arith) (omega arith))
]
