-- Which lines are commands. A command is an object of one field. The field's name is the command's name, and its value
-- is an object of the command's fields. A command at a replica also has the field `at`, the replica's name.
use Rattle.std.specs.Prelude.{◌+◌, ◌<◌, ◌≤◌, ℕ, List, length, codes, Bool, ◌&&◌, ◌||◌, nat_lt, nat_le}
use Rattle.std.specs.Prelude.{if◌then◌else◌}
use Rattle.std.specs.Prelude.{Option, Some, None, option_map, Result, Ok, Err}
use Rattle.std.specs.List.{flat_map, list_all}
use Rattle.std.specs.Str.{bytes_eq}
use Rattle.serde_json.specs.Data.{Data}
use Rattle.road_format.specs.Reading.{value_of}
use Rattle.road_format.specs.Fields.{◌>>=◌, check, has_fields, only_field, name_at, number_at, long_number_at, list_at}
use Rattle.road_format.specs.ObjectGrammar.{object_at}
use Rattle.road_format.specs.EditGrammar as edit_grammar
use Rattle.road_format.specs.Forms.{is_known, are_of_form}
use Rattle.road_format.specs.Refusals.{result_or_refusal}
use Rattle.road_scenario.specs.declared.edit.Edit as edit
use Rattle.road_plan.specs.declared.limits.TheConstants.{MOST_SESSIONS}
use Rattle.road_plan.specs.declared.object.Object.{Object}
use Rattle.road_format.specs.declared.form.TheConstants.{LAST_FORM}
use Rattle.road_format.specs.declared.refusal.Refusal.{Refusal}
use Rattle.road_format.specs.declared.refusal.Refusal.TheVariants.{NotJson, NotACommand, UnknownForm}

-- a query of a replica, with the values of its fields
pub data Query : Type 0 where
  -- step; the row of that step
  Cells : ℕ → Query
  -- step; the cars of that step
  Cars : ℕ → Query
  -- detector, from, to; the counts of that detector in the steps from `from` to before `to`
  Count : ℕ → ℕ → ℕ → Query
  -- from, to; the rows of the steps from `from` to `to`, both included
  Diagram : ℕ → ℕ → Query
  -- the winners, by object and step
  Scenario : Query

-- a command with the values of its fields; a name is given by its text
pub data Command : Type 0 where
  -- at, object, step, value
  Edit : List ℕ → Object → ℕ → ℕ → Command
  -- at, object, step
  Withdraw : List ℕ → Object → ℕ → Command
  -- at, to
  Advance : List ℕ → ℕ → Command
  -- at, and the query
  Ask : List ℕ → Query → Command
  -- at, edits
  Import : List ℕ → List edit.Edit → Command
  -- at, name
  Send : List ℕ → List ℕ → Command
  -- at, name
  Heads : List ℕ → List ℕ → Command
  -- at, heads, name
  Beyond : List ℕ → List ℕ → List ℕ → Command
  -- at, message
  Take : List ℕ → List ℕ → Command
  -- shares, to
  Crowd : List (List edit.Edit) → ℕ → Command

-- the name of a command's replica; a crowd names none
abbrev pub replica_name : Command → Option (List ℕ)
replica_name (Edit at object step number) = Some at
replica_name (Withdraw at object step) = Some at
replica_name (Advance at to) = Some at
replica_name (Ask at query) = Some at
replica_name (Import at edits) = Some at
replica_name (Send at name) = Some at
replica_name (Heads at name) = Some at
replica_name (Beyond at asked name) = Some at
replica_name (Take at message) = Some at
replica_name (Crowd shares to) = None

-- the query of a command, if it is one
abbrev pub query_of : Command → Option Query
query_of (Ask at query) = Some query
query_of command = None

-- ---- queries

-- the number at a field, of an object that has exactly this field and `at`
abbrev pub only_number : List ℕ → Data → Option ℕ
only_number field d = do
  exact ← check (has_fields 2 d)
  number_at field d

-- the steps at `from` and `to`
abbrev pub steps_at : Data → Option (ℕ × ℕ)
steps_at d = do
  from ← number_at (codes "from") d
  to ← number_at (codes "to") d
  Some (from, to)

-- exactly the fields `at`, `detector`, `from` and `to`
unfoldable pub count_in : Data → Option Query
count_in d = do
  exact ← check (has_fields 4 d)
  detector ← number_at (codes "detector") d
  steps ← steps_at d
  Some (Count detector steps.0 steps.1)

-- exactly the fields `at`, `from` and `to`
unfoldable pub diagram_in : Data → Option Query
diagram_in d = do
  exact ← check (has_fields 3 d)
  steps ← steps_at d
  Some (Diagram steps.0 steps.1)

-- exactly the field `at`
abbrev pub scenario_in : Data → Option Query
scenario_in d = do
  exact ← check (has_fields 1 d)
  Some Scenario

-- the query that has this name and these fields
unfoldable pub query_of_name : List ℕ → Data → Option Query
query_of_name name d =
    if bytes_eq name (codes "cells") then option_map Cells (only_number (codes "step") d)
    else if bytes_eq name (codes "cars") then option_map Cars (only_number (codes "step") d)
    else if bytes_eq name (codes "count") then count_in d
    else if bytes_eq name (codes "diagram") then diagram_in d
    else if bytes_eq name (codes "scenario") then scenario_in d
    else None

-- ---- commands that change or query one replica

-- exactly the fields `at`, `object`, `step` and `value`
unfoldable pub edit_command_in : List ℕ → Data → Option Command
edit_command_in at d = do
  exact ← check (has_fields 4 d)
  object ← object_at (codes "object") d
  step ← number_at (codes "step") d
  value ← number_at (codes "value") d
  Some (Edit at object step value)

-- exactly the fields `at`, `object` and `step`
unfoldable pub withdraw_in : List ℕ → Data → Option Command
withdraw_in at d = do
  exact ← check (has_fields 3 d)
  object ← object_at (codes "object") d
  step ← number_at (codes "step") d
  Some (Withdraw at object step)

-- a command that changes or queries one replica, by its name and fields
unfoldable pub replica_command_of_name : List ℕ → List ℕ → Data → Option Command
replica_command_of_name name at d =
    if bytes_eq name (codes "edit") then edit_command_in at d
    else if bytes_eq name (codes "withdraw") then withdraw_in at d
    else if bytes_eq name (codes "advance") then option_map (Advance at) (only_number (codes "to") d)
    else option_map (Ask at) (query_of_name name d)

-- ---- edits from outside, and messages from replica to replica

-- exactly the fields `at`, `edits` and `form`, which `form_of_name` reads; the form allows the edits
unfoldable pub import_in : ℕ → List ℕ → Data → Option Command
import_in form at d = do
  exact ← check (has_fields 3 d)
  edits ← list_at edit_grammar.edit_in (codes "edits") d
  formed ← check (are_of_form form edits)
  Some (Import at edits)

-- the name at a field, of an object that has exactly this field and `at`
abbrev pub only_name : List ℕ → Data → Option (List ℕ)
only_name field d = do
  exact ← check (has_fields 2 d)
  name_at field d

-- exactly the fields `at`, `heads` and `name`
unfoldable pub beyond_in : List ℕ → Data → Option Command
beyond_in at d = do
  exact ← check (has_fields 3 d)
  heads ← name_at (codes "heads") d
  name ← name_at (codes "name") d
  Some (Beyond at heads name)

-- the command of this name, form and fields at a replica
unfoldable pub command_at : List ℕ → ℕ → List ℕ → Data → Option Command
command_at name form at d =
    if bytes_eq name (codes "import") then import_in form at d
    else if bytes_eq name (codes "send") then option_map (Send at) (only_name (codes "name") d)
    else if bytes_eq name (codes "heads") then option_map (Heads at) (only_name (codes "name") d)
    else if bytes_eq name (codes "beyond") then beyond_in at d
    else if bytes_eq name (codes "take") then option_map (Take at) (only_name (codes "message") d)
    else replica_command_of_name name at d

-- ---- shares of edits, each for its own session

-- a crowd has at least one share, and not too many
abbrev pub are_few_shares : List (List edit.Edit) → Bool
are_few_shares shares = nat_lt 0 (length shares) && nat_le (length shares) MOST_SESSIONS

-- the writes of shares: one for each edit, and one for each share's advance
abbrev pub share_writes : List (List edit.Edit) → ℕ
share_writes shares = length (flat_map (λ share. share) shares) + length shares

-- a crowd has at least one share and not too many, and its shares make at most n writes; no other command has shares
abbrev pub HasFewWrites : ℕ → Command → Type 0
HasFewWrites most (Crowd shares to) =
    (0 < length shares) × (length shares ≤ MOST_SESSIONS) × (share_writes shares ≤ most)
HasFewWrites most command = Unit {0}

-- exactly the fields `shares`, `to` and `form`, which `form_of_name` reads; the form allows the shares' edits
unfoldable pub crowd_in : ℕ → Data → Option Command
crowd_in form d = do
  exact ← check (has_fields 3 d)
  shares ← list_at edit_grammar.edits_in (codes "shares") d
  few ← check (are_few_shares shares)
  formed ← check (list_all (are_of_form form) shares)
  to ← number_at (codes "to") d
  Some (Crowd shares to)

-- ---- every command

-- whether the command with this name has the field `form`
abbrev pub has_form : List ℕ → Bool
has_form name = bytes_eq name (codes "import") || bytes_eq name (codes "crowd")

-- the form of the command with this name: its field `form` if the command has one, and otherwise the last form
abbrev pub form_of_name : List ℕ → Data → Option ℕ
form_of_name name d = if has_form name then long_number_at (codes "form") d else Some LAST_FORM

-- the command of this name, form and fields: a crowd, or a command at a replica
unfoldable pub command_of_name : List ℕ → ℕ → Data → Option Command
command_of_name name form d =
    if bytes_eq name (codes "crowd") then crowd_in form d
    else name_at (codes "at") d >>= λ at. command_at name form at d

-- the form and the command of a value
unfoldable pub command_in : Data → Option (ℕ × Command)
command_in d = do
  field ← only_field d
  form ← form_of_name field.0 field.1
  command ← command_of_name field.0 form field.1
  Some (form, command)

-- the command, if its form is known
abbrev pub command_of_form : ℕ × Command → Result Command Refusal
command_of_form read = if is_known read.0 then Ok read.1 else Err UnknownForm

-- the command of a line, or its refusal. The causes in order: the line is not JSON, the value is not a command, the
-- form is unknown.
unfoldable pub command_of : List ℕ → Result Command Refusal
command_of line =
    result_or_refusal NotJson (value_of line) (λ d. result_or_refusal NotACommand (command_in d) command_of_form)
