-- The region of a car, found from the stored places of the regions.
use Rattle.std.specs.Prelude.{◌≡◌, ℕ, zero, suc, ◌+◌, ◌-◌, ◌<◌, ◌≤◌, List, length, slice_index}
use Rattle.std.proofs.Common.{ap, arith, inl, inr}
use Rattle.std.proofs.lemmas.Bool.{cases_lt}
use Rattle.road_columns.specs.Private.CarsAt.{IsPlaceAt, from_place}
use Rattle.road_columns.specs.Private.Regions.{IsInRegion, IsOfRegion, region_at}
use Rattle.road_columns.specs.declared.regions.Region.{Region}

-- a cell lies in one of the first regions, or in front of all of them
pub record RegionAmong (regions : List Region) (n c : ℕ) : Type 0 where
  pub place : ℕ
  pub within : place ≤ n
  pub from : (region_at regions place).first ≤ c
  pub to : place < n → c < (region_at regions (place + 1)).first

pub region_among : (regions : List Region) (c n : ℕ) → (region_at regions 0).first ≤ c → RegionAmong regions n c
region_among regions c zero begin = record { place = 0; within = omega arith; from = begin; to = λ less. absurd (omega arith) }
region_among regions c (suc n) begin = elim (cases_lt c (region_at regions (n + 1)).first) as (λ _. RegionAmong regions (suc n) c) [
  | inl less ↦
      let rest = region_among regions c n begin in
      let within = rest.within in
      record {
        place = rest.place;
        within = omega arith;
        from = rest.from;
        to = λ below. elim (cases_lt rest.place n) as (λ _. c < (region_at regions (rest.place + 1)).first) [
          | inl inner ↦ rest.to inner
          | inr last ↦ let same : rest.place ≡ n = omega arith in let first = ap (λ k. (region_at regions (k + 1)).first) same in omega arith
        ];
      }
  | inr more ↦ record { place = n + 1; within = omega arith; from = more; to = λ below. absurd (omega arith) }
]

-- the region in which a cell lies
pub region_of : (regions : List Region) (c : ℕ) → 0 < length regions → (region_at regions 0).first ≡ 0 → (r : ℕ) × IsInRegion regions r c
region_of regions c some begin =
    let found = region_among regions c (length regions - 1) (omega arith) in
    let within = found.within in
    (found.place, record { within = omega arith; from = found.from; to = λ more. found.to (omega arith) })

module _ (regions : List Region) (ends : List ℕ) (head tail : ℕ) (cells : List ℕ) (order : head ≤ tail)
    (from : (r : ℕ) → r < length regions → head ≤ slice_index ends r)
    (each : (r : ℕ) → r < length regions → IsPlaceAt (tail - head) (from_place cells head) (region_at regions r).first (slice_index ends r - head)) where
  at_place : (q : ℕ) → head ≤ q → from_place cells head (q - head) ≡ slice_index cells q
  at_place q low = let here : head + (q - head) ≡ q = omega arith in ap (slice_index cells) here

  pub end_in : (r : ℕ) → r < length regions → slice_index ends r ≤ tail
  end_in r below = let within = (each r below).within in let low = from r below in omega arith

  -- a car at the places of a region is on its cells
  pub in_region : (r q : ℕ) → IsOfRegion (length regions) ends r q → head ≤ q → IsInRegion regions r (slice_index cells q)
  in_region r q is low = record {
    within = is.within;
    from =
        let before = is.before_end in
        let past = (each r is.within).past (q - head) (omega arith) in
        let at = at_place q low in omega arith;
    to = λ some.
        let end = end_in r is.within in
        let below = is.before_end in
        let behind = is.from some in
        let before = (each (r + 1) some).before (q - head) (omega arith) (omega arith) in
        let at = at_place q low in omega arith;
  }

  -- a car on the cells of a region is at its places
  pub of_region : (r q : ℕ) → IsInRegion regions r (slice_index cells q) → head ≤ q → q < tail → IsOfRegion (length regions) ends r q
  of_region r q is low high = record {
    within = is.within;
    before_end = elim (cases_lt q (slice_index ends r)) as (λ _. q < slice_index ends r) [
      | inl less ↦ less
      | inr more ↦
          let before = (each r is.within).before (q - head) (omega arith) (omega arith) in
          let at = at_place q low in
          let first = is.from in absurd (omega arith)
    ];
    from = λ some. elim (cases_lt q (slice_index ends (r + 1))) as (λ _. slice_index ends (r + 1) ≤ q) [
      | inl less ↦
          let past = (each (r + 1) some).past (q - head) (omega arith) in
          let at = at_place q low in
          let next = is.to some in absurd (omega arith)
      | inr more ↦ more
    ];
  }

  pub ends_fall : ((r : ℕ) → r + 1 < length regions → (region_at regions r).first < (region_at regions (r + 1)).first) → (r : ℕ) → r + 1 < length regions → slice_index ends (r + 1) ≤ slice_index ends r
  ends_fall rising r below = elim (cases_lt (slice_index ends r) (slice_index ends (r + 1))) as (λ _. slice_index ends (r + 1) ≤ slice_index ends r) [
    | inl less ↦
        let inside : r < length regions = omega arith in
        let low = from r inside in
        let end = end_in (r + 1) below in
        let past = (each (r + 1) below).past (slice_index ends r - head) (omega arith) in
        let before = (each r inside).before (slice_index ends r - head) (omega arith) (omega arith) in
        let rise = rising r below in absurd (omega arith)
    | inr more ↦ more
  ]

  pub last_end : 0 < length regions → (region_at regions 0).first ≡ 0 → slice_index ends 0 ≡ tail
  last_end some begin = elim (cases_lt (slice_index ends 0) tail) as (λ _. slice_index ends 0 ≡ tail) [
    | inl less ↦
        let low = from 0 some in
        let before = (each 0 some).before (slice_index ends 0 - head) (omega arith) (omega arith) in absurd (omega arith)
    | inr more ↦ let end = end_in 0 some in omega arith
  ]
