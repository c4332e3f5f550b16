-- Which calls of a source or a sink over memory fail.
use Rattle.std.specs.Prelude.{ℕ, ◌==◌, Bool, false, nat_le}
use Rattle.road_serve.specs.declared.memory.Failing.{Failing}
use Rattle.road_serve.specs.declared.memory.Failing.TheVariants.{Never, Once, From}

-- whether the call with this number, counted from 0, fails
abbrev pub is_failing : Failing → ℕ → Bool
is_failing Never call = false
is_failing (Once failed) call = call == failed
is_failing (From first) call = nat_le first call
