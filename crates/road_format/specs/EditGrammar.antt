-- How edits are read: as lists of a kind's name, an index, a step, a count, a writer's number, and a value.
use Rattle.std.specs.Prelude.{List, if◌then◌else◌, Option, Some, option_map, is_some}
use Rattle.serde_json.specs.Data.{Data}
use Rattle.serde_json.specs.Find.{at, as_array, as_null}
use Rattle.road_scenario.specs.declared.edit.Stamp.{Stamp}
use Rattle.road_scenario.specs.declared.edit.Value.{Value}
use Rattle.road_scenario.specs.declared.edit.Value.TheVariants.{Withdrawn, Put}
use Rattle.road_scenario.specs.declared.edit.Edit.{Edit}
use Rattle.road_format.specs.Fields.{◌>>=◌, check, number_in, long_number_in, short_number_in, has_items}
use Rattle.road_format.specs.Fields.{values_of_items}
use Rattle.road_format.specs.ObjectGrammar.{object_in_front}

-- the effect of an edit, from its value: null for a withdrawal, otherwise the number that it sets
abbrev pub value_in : Data → Option Value
value_in d = if is_some (as_null d) then Some Withdrawn else option_map Put (number_in d)

-- the stamp whose count (of at most 64 bits) and number (of at most 16) are the fourth and the fifth item of a list
unfoldable pub stamp_in : Data → Option Stamp
stamp_in d = do
  count ← at 3 d >>= long_number_in
  number ← at 4 d >>= short_number_in
  Some (record { count = count; number = number })

-- the edit of a list of exactly six items
unfoldable pub edit_in : Data → Option Edit
edit_in d = do
  exact ← check (has_items 6 d)
  object ← object_in_front d
  step ← at 2 d >>= number_in
  stamp ← stamp_in d
  value ← at 5 d >>= value_in
  Some (record { object = object; step = step; stamp = stamp; value = value })

-- the edits of a list
abbrev pub edits_in : Data → Option (List Edit)
edits_in d = as_array d >>= values_of_items edit_in
