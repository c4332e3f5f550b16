-- A certain chance: its event happens whatever the word.
use Rattle.std.specs.Prelude.{◌≡◌, ℕ, ◌/◌, ◌^◌, ◌<◌, ◌≤◌, nat_le, nat_lt}
use Rattle.std.proofs.Common.{arith}
use Rattle.std.proofs.Math.Nat.{div-lt_iff_lt-mul}
use Rattle.std.proofs.lemmas.Bool.Decides.{nat_tests}
use Rattle.road_rules.specs.Speeds.{comes_about}

pub certain : (word chance : ℕ) → word < 2 ^ 32 → 65536 ≤ chance → nat_le 65536 chance ≡ comes_about word chance
certain word chance small always = upper (word / 65536) ((div-lt_iff_lt-mul {k = 65536} {x = word} {y = 65536} (omega arith)).1 (omega arith))
  where
    upper : (bits : ℕ) → bits < 65536 → nat_le 65536 chance ≡ nat_lt bits chance
    upper bits below = grind (arith, nat_tests)
