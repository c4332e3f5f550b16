-- Laws of all edits that are written.
use Rattle.std.specs.Prelude.{◌≡◌, ◌<◌, ◌^◌, List, map, All, Some}
use Rattle.road_scenario.specs.declared.edit.Value.{Value}
use Rattle.road_scenario.specs.declared.edit.Value.TheVariants.{Withdrawn, Put}
use Rattle.road_scenario.specs.declared.edit.Edit.{Edit}
use Rattle.serde_json.specs.View.{items_of}
use Rattle.road_format.specs.EditGrammar.{edit_in}
use Rattle.road_format.specs.Fields.{values_of_items}
use Rattle.road_format.specs.ObjectGrammar.{index_of}
use Rattle.road_format.specs.Replies.{edit_data}

-- a number that is set has at most 32 bits
abbrev pub IsPutOf32Bits : Value → Type 0
IsPutOf32Bits Withdrawn = Unit {0}
IsPutOf32Bits (Put n) = n < 2 ^ 32

-- the numbers of an edit have no more bits than the code's types for them
pub record HasItsBits (e : Edit) : Type 0 where
  pub index : index_of e.object < 2 ^ 32
  pub step : e.step < 2 ^ 32
  pub count : e.stamp.count < 2 ^ 64
  pub number : e.stamp.number < 2 ^ 16
  pub value : IsPutOf32Bits e.value

-- edits read from what was written for edits are the same edits
abbrev pub EditsReadBack : Type 0
EditsReadBack = (edits : List Edit)
    → All HasItsBits edits → values_of_items edit_in (items_of (map edit_data edits)) ≡ Some edits
