-- Steps are counted interval by interval.
use Rattle.std.proofs.Common.{◌≡◌, ◌≤◌, ◌<◌, ◌-◌, ◌%◌}
use Rattle.road_sheet.specs.QueryCaches.{IsCacheOf}
use Rattle.road_sheet.specs.Sheets.{total_of}
use Rattle.road_sheet.proofs.query_cache.QueryCache.totals_between.Given as goal

-- the steps of the intervals so far are counted, and the next ones begin at a checkpoint if the first ones did
abbrev pub invariant-loop-begin : goal.invariant-loop-begin
invariant-loop-begin l = record {
  after : l.from ≤ l.begin;
  before : l.begin ≤ l.to;
  checkpoint : l.from % 64 ≡ 0 → l.begin < l.to → l.begin % 64 ≡ 0;
  totals : l.totals ≡ total_of l.sheet l.detector l.from l.begin;
  cached : IsCacheOf l.sheet l.self;
}

abbrev pub decreases-loop-begin : goal.decreases-loop-begin
decreases-loop-begin l = l.to - l.begin
