-- The invariant of the loop that checks whether each text is a name.
use Rattle.std.proofs.Common.{◌≡◌, drop}
use Rattle.std.specs.List.{list_all}
use Rattle.road_format.specs.Fields.{is_name}
use Rattle.road_format.specs.Views.{texts}
use Rattle.road_format.proofs.names.are_all_names.Given as goal

-- the answer for the names that are left is the answer for all
abbrev pub invariant-loop-name : goal.invariant-loop-name
invariant-loop-name l = list_all is_name (texts (drop l.name-index l.names)) ≡ list_all is_name (texts l.names)
