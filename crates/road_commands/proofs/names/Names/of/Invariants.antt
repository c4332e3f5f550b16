-- The invariant of the loop that numbers names.
use Rattle.std.proofs.Common.{◌≡◌, ◌++◌}
use Rattle.road_format.specs.Views.{texts}
use Rattle.road_commands.proofs.names.Names.of.Given as goal

-- the names that are numbered, followed by those to come, are all names
abbrev pub invariant-loop-name : goal.invariant-loop-name
invariant-loop-name g l = l.numbered ++ texts l.name-iterator.rest.items ≡ texts l.fn.names.items
