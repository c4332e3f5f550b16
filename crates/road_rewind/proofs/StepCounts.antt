-- How many steps a growth computes.
use Rattle.std.proofs.Common.{◌≡◌, ◌≤◌, ◌<◌, ◌+◌, ◌-◌, ◌^◌, ◌∙◌, inl, inr, ℕ, zero, suc, min, Option, Some, None, ltb, ap, arith, refl}
use Rattle.std.proofs.lemmas.Bool.{cases_Bool}
use Rattle.std.proofs.lemmas.Bool.Decides.{nat_tests}
use Rattle.road_sheet.specs.Drafts.{draft_start}
use Rattle.road_rewind.specs.Growth.{kept_step, most_steps, meter_after, TicksAtMost}

-- the count after ticks and then more ticks
pub more_ticks_after : (meter n k : ℕ) → meter_after (meter_after meter n) k ≡ meter_after meter (n + k)
more_ticks_after meter n zero = ap (meter_after meter) (omega arith)
more_ticks_after meter n (suc k) =
    let one : suc (n + k) ≡ n + suc k = omega arith in
    ap (λ (m : ℕ). min (m + 1) (2 ^ 64 - 1)) (more_ticks_after meter n k) ∙ ap (meter_after meter) one

-- several ticks at once, at least one
at_once : (meter k : ℕ) → min (meter + suc k) (2 ^ 64 - 1) ≡ meter_after meter (suc k)
at_once meter zero = refl
at_once meter (suc k) =
    let one : min (meter + suc (suc k)) (2 ^ 64 - 1) ≡ min (min (meter + suc k) (2 ^ 64 - 1) + 1) (2 ^ 64 - 1) = omega arith in
    one ∙ ap (λ (m : ℕ). min (m + 1) (2 ^ 64 - 1)) (at_once meter k)

pub ticks_at_once : (meter k later : ℕ) → 0 < k → later ≡ min (meter + k) (2 ^ 64 - 1) → later ≡ meter_after meter k
ticks_at_once meter zero later some is = absurd (omega (arith, some))
ticks_at_once meter (suc k) later some is = is ∙ at_once meter k

-- a weaker bound
pub more_ticks : (few most meter later : ℕ) → few ≤ most → TicksAtMost few meter later → TicksAtMost most meter later
more_ticks few most meter later l is = let k = is.few in record { ticks = is.ticks; few = omega (arith, l, k); counted = is.counted }

-- a draft begins at the horizon if that is kept
pub start_at_horizon : (h keep : ℕ) → keep ≡ h → draft_start h keep ≡ h
start_at_horizon h keep same = grind (arith, nat_tests)

-- a draft never begins more than 63 steps before the kept step
start_near : (h keep : ℕ) → keep ≤ draft_start h keep + 63
start_near h keep = grind (arith, nat_tests)

-- so no more steps are computed than allowed
pub few_steps : (h to : ℕ) (touched : Option ℕ) → to - draft_start h (kept_step h touched) ≤ most_steps h to touched
few_steps h to None = let e = start_at_horizon h h refl in omega (arith, e)
few_steps h to (Some step) = elim (cases_Bool (ltb step h)) as (λ _. to - draft_start h (min h step) ≤ most_steps h to (Some step)) [
  | inl t ↦ let n = start_near h (min h step) in grind (arith, nat_tests)
  | inr f ↦ let keep : min h step ≡ h = grind (arith, nat_tests) in let e = start_at_horizon h (min h step) keep in grind (arith, nat_tests)
]
