-- The invariant of the loop that searches for a text among names.
use Rattle.std.proofs.Common.{◌≡◌, drop}
use Rattle.std.specs.List.{list_any}
use Rattle.std.specs.Str.{bytes_eq}
use Rattle.road_format.specs.Views.{texts}
use Rattle.road_format.proofs.names.is_among.Given as goal

-- the answer for the names that are left is the answer for all
abbrev pub invariant-loop-name : goal.invariant-loop-name
invariant-loop-name l = list_any (bytes_eq l.text) (texts (drop l.name-index l.names)) ≡ list_any (bytes_eq l.text) (texts l.names)
