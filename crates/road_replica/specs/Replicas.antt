-- A replica, and the edits that it makes.
use Rattle.std.specs.Prelude.{ℕ, suc, [], ◌∷◌}
use Rattle.lattice_core.specs.Sets.{from_list}
use Rattle.road_plan.specs.declared.object.Object.{Object}
use Rattle.road_scenario.specs.Counts.{greatest_count}
use Rattle.road_scenario.specs.Edits.{Edits}
use Rattle.road_scenario.specs.declared.edit.Edit.{Edit}
use Rattle.road_scenario.specs.declared.edit.Value.{Value}
use Rattle.road_sheet.specs.Commands.{SheetCommand, sheet_after}
use Rattle.road_sheet.specs.Sheets.{Sheet}
use Rattle.road_rewind.specs.Growth.{most_steps, touched_step}

-- a replica's number, and its sheet
pub record Replica : Type 0 where
  pub number : ℕ
  pub sheet : Sheet

-- the edit that a replica makes: its stamp has the replica's number, and a count that is one more than the greatest of
-- the edits that it holds
abbrev pub local_edit : ℕ → Edits → Object → ℕ → Value → Edit
local_edit number edits object step value = record {
  object = object;
  step = step;
  stamp = record { count = suc (greatest_count edits); number = number };
  value = value;
}

-- the edit that a replica makes, given what its sheet holds
abbrev pub edit_made : Replica → Object → ℕ → Value → Edit
edit_made r object step value = local_edit r.number r.sheet.edits object step value

-- the set of one edit
abbrev pub single_edit : Edit → Edits
single_edit edit = from_list (edit ∷ [])

-- the replica after a command to its sheet
abbrev pub replica_after : SheetCommand → Replica → Replica
replica_after command r = record r { sheet = sheet_after command r.sheet }

-- the most steps computed when a sheet takes edits: 0 if they touch no simulated step, else the number of steps from
-- the touched one up to the horizon, and 63 more
abbrev pub most_steps_taking : Sheet → Edits → ℕ
most_steps_taking s edits = most_steps s.horizon s.horizon (touched_step s edits)
