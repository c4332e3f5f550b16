-- The sheet after a journal, whatever the order of its entries: all its edits merged, simulated up to its latest step.
use Rattle.std.specs.Prelude.{ℕ, max, map, List, [], ◌∷◌}
use Rattle.lattice_core.specs.Sets.{empty, union}
use Rattle.road_scenario.specs.Edits.{Edits}
use Rattle.road_scenario.specs.Winners.{winners}
use Rattle.road_sheet.specs.Sheets.{Sheet}
use Rattle.road_replica.specs.Replicas.{Replica}
use Rattle.road_sessions.specs.declared.entry.SheetCommand.{SheetCommand}
use Rattle.road_sessions.specs.declared.entry.SheetCommand.TheVariants.{Take, Advance}
use Rattle.road_sessions.specs.declared.entry.Entry.{Entry}
use Rattle.road_sessions.specs.Sessions.{Session}

-- the edits that a command takes; an advance takes none
abbrev pub command_edits : SheetCommand → Edits
command_edits (Take edits) = edits
command_edits (Advance to) = empty

-- the step that a command advances to; 0 if it takes edits
abbrev pub command_step : SheetCommand → ℕ
command_step (Take edits) = 0
command_step (Advance to) = to

-- all edits that a journal takes
abbrev pub edits_taken : List Entry → Edits
edits_taken [] = empty
edits_taken (e ∷ es) = union (command_edits e.command) (edits_taken es)

-- the latest step that a journal advances to; 0 without an advance
abbrev pub latest_step : List Entry → ℕ
latest_step [] = 0
latest_step (e ∷ es) = max (command_step e.command) (latest_step es)

-- a replica's sheet with all edits of a journal merged in, simulated up to its latest step
abbrev pub merged_sheet : Replica → List Entry → Sheet
merged_sheet r journal = record {
  plan = r.sheet.plan;
  edits = winners (union r.sheet.edits (edits_taken journal));
  horizon = max r.sheet.horizon (latest_step journal);
}

-- the entries that a session wrote, in order
abbrev pub entries_written : Session → List Entry
entries_written s = map (λ w. w.1) s.view.own
