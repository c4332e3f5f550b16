-- The loop that counts the cars that pass.
use Rattle.std.proofs.Common.{◌≡◌, ◌+◌, ◌*◌, ◌≤◌, length, drop, sum}
use Rattle.road_detector.specs.Passes.{drives, passing_speeds}
use Rattle.road_detector.proofs.counts.count_passing.Given as goal

-- the counts so far, with the cars that are still to be counted, are all of them
abbrev pub invariant-loop-place : goal.invariant-loop-place
invariant-loop-place l = record {
  cars : l.totals.cars + length (passing_speeds l.site (drop l.place (drives l.cars l.speeds))) ≡ length (passing_speeds l.site (drives l.cars l.speeds));
  speeds : l.totals.speeds + sum (passing_speeds l.site (drop l.place (drives l.cars l.speeds))) ≡ sum (passing_speeds l.site (drives l.cars l.speeds));
  few : l.totals.cars ≤ l.place;
  slow : l.totals.speeds ≤ 255 * l.totals.cars;
}
