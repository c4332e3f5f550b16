-- The rules for the speed of one vehicle (Nagel and Schreckenberg 1992).
use Rattle.std.specs.Prelude.{ℕ, ◌+◌, ◌-◌, ◌/◌, min, Bool, nat_lt, nat_le, ◌&&◌, if◌then◌else◌}

-- rules 1 and 2: accelerate by one, but neither above the limit nor past the free cells
abbrev pub wanted_speed : ℕ → ℕ → ℕ → ℕ
wanted_speed speed limit free = min (min (speed + 1) limit) free

-- rule 1: if the next vehicle is more than v + 1 sites away, a speed v below the maximum grows by one
abbrev pub speed_after_acceleration : ℕ → ℕ → ℕ → ℕ
speed_after_acceleration v greatest distance = if nat_lt v greatest && nat_lt (v + 1) distance then v + 1 else v

-- rule 2: if the next vehicle is at most v sites away, the speed falls to one less than that distance
abbrev pub speed_after_braking : ℕ → ℕ → ℕ
speed_after_braking v distance = if nat_le distance v then distance - 1 else v

-- whether a random word makes an event of this chance (in 1/65,536) happen: it does if its upper 16 bits are below the
-- chance
abbrev pub comes_about : ℕ → ℕ → Bool
comes_about word chance = nat_lt (word / 65536) chance

-- rule 3: if a car is slowed, its speed falls by one, but not below 0
abbrev pub slowed_speed : ℕ → Bool → ℕ
slowed_speed v event = if event then v - 1 else v
