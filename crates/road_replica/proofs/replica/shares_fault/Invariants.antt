-- Shares are checked for a cause, one after another.
use Rattle.std.proofs.Common.{◌≡◌, drop}
use Rattle.road_replica.specs.Crowds.{edits_of, shares_of}
use Rattle.road_replica.specs.Refusals.{import_fault}
use Rattle.road_replica.proofs.replica.shares_fault.Given as goal

-- the cause for the shares that are left is the cause for all
abbrev pub invariant-loop-share : goal.invariant-loop-share
invariant-loop-share l = import_fault l.plan (edits_of (shares_of (drop l.share-index l.shares))) ≡ import_fault l.plan (edits_of (shares_of l.shares))
