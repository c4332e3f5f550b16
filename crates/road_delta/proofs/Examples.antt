-- Worked examples, as equations that the checker computes.
use Rattle.std.specs.Prelude.{◌≡◌, ℕ, true, false, List, [], ◌∷◌, map, refl}
use Rattle.std.proofs.Common.{sym, ap}
use Rattle.lattice_core.specs.Sets.{from_list}
use Rattle.lattice_core.proofs.SetElements.{items-from_list}
use Rattle.road_plan.specs.declared.object.Object.{Object}
use Rattle.road_plan.specs.declared.object.Object.TheVariants.{Limit, Block}
use Rattle.road_scenario.specs.declared.edit.Edit.{Edit}
use Rattle.road_scenario.specs.declared.edit.Value.TheVariants.{Put}
use Rattle.road_scenario.specs.Instances.EditOrder.{edit_total}
use Rattle.road_delta.specs.declared.heads.Head.{Head}
use Rattle.road_delta.specs.Deltas.{head_of, heads, is_beyond, beyond}
use Rattle.road_delta.proofs.DeltaEdits.{from_list-beyond, beyond-own}

-- an edit that sets a number for an object from a step on, with its stamp's count and number
abbrev put : Object → ℕ → ℕ → ℕ → ℕ → Edit
put o step count number value = record { object = o; step = step; stamp = record { count = count; number = number }; value = Put value }

-- a head, with its stamp's count and number
abbrev head : Object → ℕ → ℕ → ℕ → Head
head o step count number = record { object = o; step = step; stamp = record { count = count; number = number } }

-- A set the limit of zone 0 at step 3 and at step 5, and blocked cell 8 from step 4 on
abbrev held_by_a : List Edit
held_by_a = put (Limit 0) 3 1 0 1 ∷ put (Limit 0) 5 3 0 0 ∷ put (Block 8) 4 2 0 1 ∷ []

-- B took the first of A's limits and the block, and then set a limit of its own at step 3
abbrev held_by_b : List Edit
held_by_b = put (Limit 0) 3 3 1 0 ∷ put (Block 8) 4 2 0 1 ∷ []

abbrev heads_of_b : List Head
heads_of_b = head (Limit 0) 3 3 1 ∷ head (Block 8) 4 2 0 ∷ []

b_tells : heads (from_list held_by_b) ≡ heads_of_b
b_tells = ap (map head_of) (items-from_list edit_total held_by_b tt)

-- A's limit at step 3 has a smaller stamp than B's and is not sent; the block has an equal stamp and is sent
a_sends : beyond (from_list held_by_a) heads_of_b ≡ from_list (put (Limit 0) 5 3 0 0 ∷ put (Block 8) 4 2 0 1 ∷ [])
a_sends = sym (from_list-beyond held_by_a heads_of_b)

-- everything is beyond no heads, and beyond its own heads
all_is_new : beyond (from_list held_by_a) [] ≡ from_list held_by_a
all_is_new = sym (from_list-beyond held_by_a [])

own_is_all : beyond (from_list held_by_a) (heads (from_list held_by_a)) ≡ from_list held_by_a
own_is_all = beyond-own (from_list held_by_a)

-- stamps compare by their counts, and then by their numbers
greater_number_above : is_beyond (head (Limit 0) 3 3 1 ∷ []) (put (Limit 0) 3 3 0 1) ≡ false
greater_number_above = refl

equal_stamp_beyond : is_beyond (head (Limit 0) 3 3 1 ∷ []) (put (Limit 0) 3 3 1 1) ≡ true
equal_stamp_beyond = refl

greater_count_beyond : is_beyond (head (Limit 0) 3 3 1 ∷ []) (put (Limit 0) 3 4 0 1) ≡ true
greater_count_beyond = refl

other_step_beyond : is_beyond (head (Limit 0) 3 3 1 ∷ []) (put (Limit 0) 4 1 0 1) ≡ true
other_step_beyond = refl
