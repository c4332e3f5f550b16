-- The bytes of the line that has not ended, as contracts see them.
use Rattle.std.specs.Prelude.{◌≤◌, ℕ, List, Option, Some, None, length}
use Rattle.road_plan.specs.declared.limits.TheConstants.{LONGEST_LINE}
use Rattle.road_serve.specs.declared.held_line.Held.{Held}
use Rattle.road_serve.specs.declared.held_line.Held.TheVariants.{Bytes, TooLong}

-- the bytes that are held; none if the line is too long
abbrev pub bytes_held : Held → Option (List ℕ)
bytes_held (Bytes bytes) = Some bytes.items
bytes_held TooLong = None

-- at most as many bytes are held as a line may have
abbrev pub IsShort : Option (List ℕ) → Type 0
IsShort (Some bytes) = length bytes ≤ LONGEST_LINE
IsShort None = Unit {0}
