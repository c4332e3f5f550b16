-- Where the stretches of a road begin.
use Rattle.std.specs.Prelude.{◌≡◌, ℕ, zero, suc, ◌+◌, ◌*◌, ◌/◌, ◌<◌, ◌≤◌, Bool, true, false, if◌then◌else◌, length, min, nat_eq}
use Rattle.std.proofs.Common.{sym, ap, subst, ◌∙◌, inl, inr, arith}
use Rattle.std.proofs.Math.Nat.{div-mul-le_self}
use Rattle.std.proofs.lemmas.Bool.{cases_lt}
use Rattle.std.proofs.lemmas.Bool.Decides.{nat_tests}
use Rattle.std.proofs.lemmas.Nat.{mul-le}
use Rattle.road_cells.specs.Array.{Array}
use Rattle.road_cells.specs.Cars.{cars_of, cell_at}
use Rattle.road_cells.proofs.CarLists.{rise-cars_from}
use Rattle.road_cells.proofs.CarPlaces.{rise-at}
use Rattle.road_workers.specs.Private.Stretches.{cut}

other : (m n : ℕ) → m < n → nat_eq m n ≡ false
other m n below = grind (arith, nat_tests)

other_turned : (m n : ℕ) → n < m → nat_eq m n ≡ false
other_turned m n above = grind (arith, nat_tests)

itself : (n : ℕ) → nat_eq n n ≡ true
itself n = grind (arith, nat_tests)

module _ (cells : ℕ) (a : Array) (n : ℕ) where
  -- the cell where a stretch begins that is not the first one: the cell of a car
  abbrev at : ℕ → ℕ
  at w = cell_at (cars_of a) (length (cars_of a) / n * w)

  pub cut-last : 0 < n → cut cells (cars_of a) n n ≡ cells
  cut-last some =
      ap (λ (b : Bool). if b then 0 else (if nat_eq n n then cells else min (at n) cells)) (other_turned n 0 some)
      ∙ ap (λ (b : Bool). if b then cells else min (at n) cells) (itself n)

  between : (w : ℕ) → 0 < w → w < n → cut cells (cars_of a) n w ≡ min (at w) cells
  between w some below =
      ap (λ (b : Bool). if b then 0 else (if nat_eq w n then cells else min (at w) cells)) (other_turned w 0 some)
      ∙ ap (λ (b : Bool). if b then cells else min (at w) cells) (other w n below)

  -- cars rise
  at-rise : (w : ℕ) → w + 1 < n → at w ≤ at (w + 1)
  at-rise w below =
      let part = length (cars_of a) / n in
      let all : part * n ≤ length (cars_of a) = div-mul-le_self (length (cars_of a)) n in
      let many = mul-le (w + 2) part n part (omega arith) (omega arith) in
      elim (cases_lt 0 part) as (λ _. at w ≤ at (w + 1)) [
        | inl some ↦
            let next : part * w < part * (w + 1) = omega (arith, some) in
            let last : part * (w + 1) < length (cars_of a) = omega (arith, some, all, many) in
            let rise = rise-at 0 (cars_of a) (part * w) (part * (w + 1)) (rise-cars_from 0 a) next last in
            omega (arith, rise)
        | inr none ↦
            let same : part * w ≡ part * (w + 1) = omega (arith, none, mul-le part w 0 w (omega arith) (omega arith), mul-le part (w + 1) 0 (w + 1) (omega arith) (omega arith)) in
            let cells_same = ap (cell_at (cars_of a)) same in
            omega (arith, cells_same)
      ]

  pub cut-within : (w : ℕ) → 0 < n → w ≤ n → cut cells (cars_of a) n w ≤ cells
  cut-within zero some le = omega arith
  cut-within (suc w) some le = elim (cases_lt (suc w) n) as (λ _. cut cells (cars_of a) n (suc w) ≤ cells) [
    | inl below ↦ let is = between (suc w) (omega arith) below in omega (arith, is)
    | inr past ↦
        let last : suc w ≡ n = omega arith in
        let is = cut-last some in
        subst (λ k. cut cells (cars_of a) n k ≤ cells) (sym last) (omega (arith, is))
  ]

  -- a stretch ends where it begins or later
  pub cut-rise : (w : ℕ) → w < n → cut cells (cars_of a) n w ≤ cut cells (cars_of a) n (w + 1)
  cut-rise zero below = omega arith
  cut-rise (suc w) below = elim (cases_lt (suc w + 1) n) as (λ _. cut cells (cars_of a) n (suc w) ≤ cut cells (cars_of a) n (suc w + 1)) [
    | inl more ↦
        let here = between (suc w) (omega arith) below in
        let there = between (suc w + 1) (omega arith) more in
        let rise = at-rise (suc w) more in
        omega (arith, here, there, rise)
    | inr past ↦
        let last : suc w + 1 ≡ n = omega arith in
        let within = cut-within (suc w) (omega arith) (omega arith) in
        let end = ap (cut cells (cars_of a) n) last ∙ cut-last (omega arith) in
        omega (arith, within, end)
  ]
