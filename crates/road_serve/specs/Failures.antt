-- The counts of failed calls.
use Rattle.std.specs.Prelude.{◌≡◌, ℕ, ◌+◌, ◌-◌, ◌^◌, min}

-- a count of failed calls increases by one, unless it is already the largest u64
abbrev pub RisesByOne : ℕ → ℕ → Type 0
RisesByOne old new = new ≡ min (old + 1) (2 ^ 64 - 1)
