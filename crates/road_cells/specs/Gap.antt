-- The free cells in front of a cell.
use Rattle.std.specs.Prelude.{ℕ, ◌+◌, ◌<◌, ◌≤◌, ◌||◌, Bool, List, length, nat_eq, is_some, slice_index}
use Rattle.std.specs.List.{list_any, position_or_len, range_with_len}
use Rattle.road_cells.specs.Array.{Array, vehicle_at}
use Rattle.road_cells.specs.declared.car.TheConstants.{GREATEST_SPEED}

-- the number of cells, from c on, before the first cell that passes the test, at most n
unfoldable pub free_before : (ℕ → Bool) → ℕ → ℕ → ℕ
free_before test c n = position_or_len test (range_with_len c n)

-- whether a cell is blocked
abbrev pub is_blocked : List ℕ → ℕ → Bool
is_blocked blocks c = list_any (nat_eq c) blocks

-- whether a cell holds a car or is blocked
abbrev pub is_taken : List ℕ → Array → ℕ → Bool
is_taken blocks a c = is_some (vehicle_at a c) || is_blocked blocks c

-- the free cells in front of cell c, at most as many as a car can drive in a step
abbrev pub free_cells : List ℕ → Array → ℕ → ℕ
free_cells blocks a c = free_before (is_taken blocks a) (c + 1) GREATEST_SPEED

-- the first n of the blocked cells are not in front of cell c, and all others are
pub record ArePartedAt (blocks : List ℕ) (c n : ℕ) : Type 0 where
  pub reached : (i : ℕ) → i < n → i < length blocks → slice_index blocks i ≤ c
  pub ahead : (i : ℕ) → n ≤ i → i < length blocks → c < slice_index blocks i
