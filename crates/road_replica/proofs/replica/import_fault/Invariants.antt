-- Edits are checked for a cause, one after another.
use Rattle.std.proofs.Common.{◌≡◌, drop}
use Rattle.road_replica.specs.Refusals.{import_fault}
use Rattle.road_replica.proofs.replica.import_fault.Given as goal

-- the cause for the edits that are left is the cause for all
abbrev pub invariant-loop-edit : goal.invariant-loop-edit
invariant-loop-edit l = import_fault l.plan (drop l.edit-index l.edits) ≡ import_fault l.plan l.edits
