-- The line written for an answer: one compact JSON object and a newline.
use Rattle.std.specs.Prelude.{ℕ, List, [], ◌∷◌, ◌++◌, map, codes, Option, Some, None}
use Rattle.serde_json.specs.Data.{Data, null, number, unsigned, string, array, object, no_members, member}
use Rattle.serde_json.specs.View.{items_of}
use Rattle.serde_json.specs.Written.{compact_text}
use Rattle.road_scenario.specs.declared.edit.Stamp.{Stamp}
use Rattle.road_scenario.specs.declared.edit.Value.{Value}
use Rattle.road_scenario.specs.declared.edit.Value.TheVariants.{Withdrawn, Put}
use Rattle.road_scenario.specs.declared.edit.Edit.{Edit}
use Rattle.road_delta.specs.declared.heads.Head.{Head}
use Rattle.road_format.specs.Cut.{newline}
use Rattle.road_format.specs.ObjectGrammar.{kind_of, index_of}
use Rattle.road_format.specs.Refusals.{text_of}
use Rattle.road_format.specs.declared.form.TheConstants.{LAST_FORM}
use Rattle.road_format.specs.declared.refusal.Refusal.{Refusal}

-- the answer to a line
pub data Answer : Type 0 where
  -- the plan is open, with this number of replicas
  Open : ℕ → Answer
  Refused : Refusal → Answer
  -- the replica's horizon, in steps
  Horizon : ℕ → Answer
  -- the text of one row of cells
  Cells : List ℕ → Answer
  -- each car's number, cell and speed
  Cars : List (ℕ × ℕ × ℕ) → Answer
  -- the number of cars counted, and the sum of their speeds
  Counted : ℕ → ℕ → Answer
  -- the texts of rows of cells
  Rows : List (List ℕ) → Answer
  -- the stamp of an edit
  Stamped : Stamp → Answer
  -- the edits that a replica holds
  Edits : List Edit → Answer
  -- the first step at which the number set for an object has changed, if there is such a step
  Touched : Option ℕ → Answer
  -- the name of a message, and the number of its edits
  Sent : List ℕ → ℕ → Answer
  -- the name of a message, and its heads
  Heads : List ℕ → List Head → Answer
  -- the name of a message, and its edits
  Delta : List ℕ → List Edit → Answer
  -- the winners of a crowd's edits, the number of writes of its sessions, and the text of its last row of cells
  Crowd : List Edit → ℕ → List ℕ → Answer

-- a whole number
abbrev pub number_data : ℕ → Data
number_data n = number (unsigned n)

-- a list
abbrev pub list_data : List Data → Data
list_data ds = array (items_of ds)

-- the object of one field
abbrev pub field_data : List ℕ → Data → Data
field_data name d = object (member name d no_members)

-- a car: number, cell, speed
abbrev pub car_data : ℕ × ℕ × ℕ → Data
car_data car = list_data (number_data car.0 ∷ number_data car.1 ∷ number_data car.2 ∷ [])

-- the number that an edit sets, or null for a withdrawal
abbrev pub value_data : Value → Data
value_data Withdrawn = null
value_data (Put n) = number_data n

-- an edit: kind, index, step, count, number, value
abbrev pub edit_data : Edit → Data
edit_data e =
    list_data (string (kind_of e.object) ∷ number_data (index_of e.object) ∷ number_data e.step
    ∷ number_data e.stamp.count ∷ number_data e.stamp.number ∷ value_data e.value ∷ [])

-- a head: kind, index, step, count, number
abbrev pub head_data : Head → Data
head_data h =
    list_data (string (kind_of h.object) ∷ number_data (index_of h.object) ∷ number_data h.step
    ∷ number_data h.stamp.count ∷ number_data h.stamp.number ∷ [])

-- a step as a number, and None as null
abbrev pub step_data : Option ℕ → Data
step_data None = null
step_data (Some step) = number_data step

-- the value written for an answer
abbrev pub data_of : Answer → Data
data_of (Open replicas) = field_data (codes "open") (number_data replicas)
data_of (Refused refusal) = field_data (codes "refused") (string (text_of refusal))
data_of (Horizon horizon) = field_data (codes "horizon") (number_data horizon)
data_of (Cells row) = field_data (codes "cells") (string row)
data_of (Cars cars) = field_data (codes "cars") (list_data (map car_data cars))
data_of (Counted cars speeds) =
    object (member (codes "cars") (number_data cars) (member (codes "speeds") (number_data speeds) no_members))
data_of (Rows rows) = field_data (codes "rows") (list_data (map string rows))
data_of (Stamped stamp) =
    field_data (codes "stamp") (list_data (number_data stamp.count ∷ number_data stamp.number ∷ []))
data_of (Edits edits) =
    object (member (codes "edits") (list_data (map edit_data edits))
    (member (codes "form") (number_data LAST_FORM) no_members))
data_of (Touched step) = field_data (codes "touched") (step_data step)
data_of (Sent message size) =
    object (member (codes "message") (string message) (member (codes "size") (number_data size) no_members))
data_of (Heads message heads) =
    object (member (codes "form") (number_data LAST_FORM) (member (codes "heads") (list_data (map head_data heads))
    (member (codes "message") (string message) no_members)))
data_of (Delta message edits) =
    object (member (codes "edits") (list_data (map edit_data edits)) (member (codes "form") (number_data LAST_FORM)
    (member (codes "message") (string message) no_members)))
data_of (Crowd edits journal row) =
    object (member (codes "edits") (list_data (map edit_data edits)) (member (codes "form") (number_data LAST_FORM)
    (member (codes "journal") (number_data journal) (member (codes "row") (string row) no_members))))

-- the line written for an answer, as serde_json writes a value
unfoldable pub reply : Answer → List ℕ
reply answer = compact_text (data_of answer) ++ newline ∷ []
