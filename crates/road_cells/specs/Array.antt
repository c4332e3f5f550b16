-- The road as an array: each place is empty or holds a vehicle.
use Rattle.std.specs.Prelude.{ℕ, List, [], ◌∷◌, map, slice_get}
use Rattle.std.specs.List.{range_with_len}
use Rattle.std.specs.declared.option.Option.{Option}
use Rattle.std.specs.declared.option.Option.TheVariants.{None, Some}

-- a vehicle: its number, and its speed in cells per step
pub record Vehicle : Type 0 where
  pub number : ℕ
  pub speed : ℕ

-- A road: for each cell from 0 on nothing or the vehicle there. Places past the end of the list are empty, and the list
-- ends in a vehicle, so each road has only one form.
abbrev pub Array : Type 0
Array = List (Option Vehicle)

-- the vehicle at a cell, if there is one
abbrev pub vehicle_at : Array → ℕ → Option Vehicle
vehicle_at a c = standing (slice_get a c)
  where
    standing : Option (Option Vehicle) → Option Vehicle
    standing None = None
    standing (Some place) = place

-- the array with one more place in front; an empty place in front of no vehicle is dropped
abbrev pub with_first_place : Option Vehicle → Array → Array
with_first_place None [] = []
with_first_place None (y ∷ ys) = None ∷ y ∷ ys
with_first_place (Some x) ys = Some x ∷ ys

-- the places, without the empty ones at the end
abbrev pub array_of_places : List (Option Vehicle) → Array
array_of_places [] = []
array_of_places (x ∷ xs) = with_first_place x (array_of_places xs)

-- the array with the values of a function at each cell below n, and nothing from n on
abbrev pub array : ℕ → (ℕ → Option Vehicle) → Array
array n f = array_of_places (map f (range_with_len 0 n))
