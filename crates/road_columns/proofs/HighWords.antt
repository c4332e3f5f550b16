-- Each car has a number in the row or beside it, even if it is not that of its word: cars that cannot move need no
-- word.
use Rattle.std.specs.Prelude.{◌≡◌, ℕ, zero, suc, ◌-◌, ◌<◌, ◌≤◌, ◌⊎◌, List, [], slice_index}
use Rattle.std.proofs.Common.{ap, subst, arith, inl, inr}
use Rattle.std.proofs.lemmas.Bool.{cases_lt}
use Rattle.std.specs.List.{slice_index_or}
use Rattle.road_columns.specs.Private.EnteredList.{ArePlacesRising}
use Rattle.road_columns.specs.Private.Pieces.{IsHigh16At}

-- of the first n places, the first one that is not before q
record IsFirstFrom (n : ℕ) (beside : List ℕ) (q m : ℕ) : Type 0 where
  within : m < n
  from : q ≤ slice_index beside m
  before : (i : ℕ) → i < m → slice_index beside i < q

first_from : (n : ℕ) (beside : List ℕ) (q : ℕ) → ((i : ℕ) → i < n → slice_index beside i < q) ⊎ ((m : ℕ) × IsFirstFrom n beside q m)
first_from zero beside q = inl (λ i below. absurd (omega arith))
first_from (suc n) beside q = elim (first_from n beside q) as (λ _. ((i : ℕ) → i < suc n → slice_index beside i < q) ⊎ ((m : ℕ) × IsFirstFrom (suc n) beside q m)) [
  | inl all ↦ elim (cases_lt (slice_index beside n) q) as (λ _. ((i : ℕ) → i < suc n → slice_index beside i < q) ⊎ ((m : ℕ) × IsFirstFrom (suc n) beside q m)) [
    | inl less ↦ inl (λ i below. elim (cases_lt i n) as (λ _. slice_index beside i < q) [
      | inl early ↦ all i early
      | inr last ↦ let same : n ≡ i = omega arith in subst (λ k. slice_index beside k < q) same less
    ])
    | inr more ↦ inr (n, record { within = omega arith; from = more; before = all })
  ]
  | inr found ↦ let is = found.1 in let within = is.within in inr (found.0, record { within = omega arith; from = is.from; before = is.before })
]

pub some_high16 : (row : List ℕ) (index n : ℕ) (beside : List ℕ) (batches : List (List ℕ)) (q : ℕ) → ArePlacesRising n beside → (h : ℕ) × IsHigh16At row index n beside batches q h
some_high16 row index n beside batches q rising = elim (first_from n beside q) as (λ _. (h : ℕ) × IsHigh16At row index n beside batches q h) [
  | inl all ↦ (
    slice_index row (q - n),
    record {
      in_row = λ m bound before after. elim (cases_lt m n) as (λ _. slice_index row (q - m) ≡ slice_index row (q - n)) [
        | inl less ↦ let a = after m (omega arith) less in let b = all m less in absurd (omega arith)
        | inr more ↦ let same : m ≡ n = omega arith in ap (λ k. slice_index row (q - k)) same
      ];
      own = λ i below same. let less = all i below in absurd (omega arith);
    },
  )
  | inr found ↦
      let m0 = found.0 in
      let is = found.1 in
      let within = is.within in
      let from = is.from in
      elim (cases_lt q (slice_index beside found.0)) as (λ _. (h : ℕ) × IsHigh16At row index n beside batches q h) [
        | inl past ↦ (
          slice_index row (q - found.0),
          record {
            in_row = λ m bound before after. elim (cases_lt m found.0) as (λ _. slice_index row (q - m) ≡ slice_index row (q - found.0)) [
              | inl less ↦ let a = after m (omega arith) (omega arith) in let b = is.before m less in absurd (omega arith)
              | inr more ↦ elim (cases_lt found.0 m) as (λ _. slice_index row (q - m) ≡ slice_index row (q - found.0)) [
                | inl early ↦ let a = before found.0 early in absurd (omega arith)
                | inr late ↦ let same : m ≡ found.0 = omega arith in ap (λ k. slice_index row (q - k)) same
              ]
            ];
            own = λ i below same. elim (cases_lt i found.0) as (λ _. slice_index (slice_index_or batches i []) index ≡ slice_index row (q - found.0)) [
              | inl less ↦ let a = is.before i less in absurd (omega arith)
              | inr more ↦ elim (cases_lt found.0 i) as (λ _. slice_index (slice_index_or batches i []) index ≡ slice_index row (q - found.0)) [
                | inl early ↦ let a = rising.rising found.0 i early below in absurd (omega arith)
                | inr late ↦ let here : i ≡ found.0 = omega arith in let a = ap (slice_index beside) here in absurd (omega arith)
              ]
            ];
          },
        )
        | inr at ↦ (
          slice_index (slice_index_or batches found.0 []) index,
          record {
            in_row = λ m bound before after. elim (cases_lt found.0 m) as (λ _. slice_index row (q - m) ≡ slice_index (slice_index_or batches found.0 []) index) [
              | inl early ↦ let a = before found.0 early in absurd (omega arith)
              | inr late ↦ let a = after found.0 (omega arith) within in absurd (omega arith)
            ];
            own = λ i below same. elim (cases_lt i found.0) as (λ _. slice_index (slice_index_or batches i []) index ≡ slice_index (slice_index_or batches found.0 []) index) [
              | inl less ↦ let a = is.before i less in absurd (omega arith)
              | inr more ↦ elim (cases_lt found.0 i) as (λ _. slice_index (slice_index_or batches i []) index ≡ slice_index (slice_index_or batches found.0 []) index) [
                | inl early ↦ let a = rising.rising found.0 i early below in absurd (omega arith)
                | inr late ↦ let here : i ≡ found.0 = omega arith in ap (λ k. slice_index (slice_index_or batches k []) index) here
              ]
            ];
          },
        )
      ]
]
