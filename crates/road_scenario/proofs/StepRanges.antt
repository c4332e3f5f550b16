-- The registers of an object up to a step, and those after it.
use Rattle.std.specs.Prelude.{◌≡◌, ℕ, true, false, cond, not, [], ◌∷◌, nat_le, nat_lt, refl}
use Rattle.std.specs.declared.option.Option.{Option}
use Rattle.std.specs.declared.option.Option.TheVariants.{None, Some}
use Rattle.std.specs.Option.{option_or}
use Rattle.std.specs.Ordering.{nat_cmp, is_lt}
use Rattle.std.proofs.Common.{arith, ap, ◌∙◌}
use Rattle.std.proofs.lemmas.Bool.Decides.{nat_tests}
use Rattle.lattice_core.specs.Map.{entries_after, entries_up_to}
use Rattle.road_scenario.specs.Registers.{RegistersByStep}
use Rattle.road_scenario.specs.Private.RegisterWalks.{first_step_after, last_number, register_number}
use Rattle.road_scenario.proofs.LastNumbers.{last_number_of, or_none}

-- the map's tests of steps are the tests of numbers
up_to-le : (at step : ℕ) → not (is_lt (nat_cmp step at)) ≡ nat_le at step
up_to-le at step = grind (arith, nat_tests)

after-lt : (at step : ℕ) → is_lt (nat_cmp step at) ≡ nat_lt step at
after-lt at step = grind (arith, nat_tests)

-- the last number of the registers up to a step is the last number set up to it
pub last_number-up_to : (step : ℕ) (es : RegistersByStep) → last_number_of (entries_up_to nat_cmp step es) ≡ last_number step es
last_number-up_to step [] = refl
last_number-up_to step (e ∷ es) =
    let before : RegistersByStep = entries_up_to nat_cmp step es in
    ap (λ b. last_number_of (cond b (e ∷ before) before)) (up_to-le e.0 step)
    ∙ elim (nat_le e.0 step) as (λ b. last_number_of (cond b (e ∷ before) before) ≡ option_or (last_number step es) (cond b (register_number e.1) None)) [
      | true ↦ ap (λ n. option_or n (register_number e.1)) (last_number-up_to step es)
      | false ↦ last_number-up_to step es ∙ or_none (last_number step es)
    ]

abbrev pub first_step : RegistersByStep → Option ℕ
first_step [] = None
first_step (e ∷ es) = Some e.0

-- the registers after a step begin with the first step after it
pub first_step-after : (step : ℕ) (es : RegistersByStep) → first_step (entries_after nat_cmp step es) ≡ first_step_after step es
first_step-after step [] = refl
first_step-after step (e ∷ es) =
    let later : RegistersByStep = entries_after nat_cmp step es in
    ap (λ b. first_step (cond b (e ∷ later) later)) (after-lt e.0 step)
    ∙ elim (nat_lt step e.0) as (λ b. first_step (cond b (e ∷ later) later) ≡ cond b (Some e.0) (first_step_after step es)) [
      | true ↦ refl
      | false ↦ first_step-after step es
    ]
