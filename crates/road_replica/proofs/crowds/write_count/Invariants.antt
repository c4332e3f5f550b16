-- The writes of shares are counted, one share after another.
use Rattle.std.proofs.Common.{◌≡◌, ◌+◌, ◌≤◌, drop}
use Rattle.std.specs.Prelude.{◌-◌, ◌^◌, min}
use Rattle.road_replica.specs.Crowds.{crowd_writes, shares_of}
use Rattle.road_replica.proofs.crowds.write_count.Given as goal

-- the writes counted, with those of the shares that are left, are all writes
abbrev pub invariant-loop-share : goal.invariant-loop-share
invariant-loop-share l = record {
  all : min (l.count + crowd_writes (shares_of (drop l.share-index l.shares))) (2 ^ 64 - 1) ≡ min (crowd_writes (shares_of l.shares)) (2 ^ 64 - 1);
  fits : l.count ≤ 2 ^ 64 - 1;
}
