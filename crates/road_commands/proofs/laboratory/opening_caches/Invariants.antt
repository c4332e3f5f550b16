-- The invariant of the loop that makes a cache for each replica.
use Rattle.std.proofs.Common.{◌≡◌, length}
use Rattle.std.specs.List.{All}
use Rattle.road_sheet.specs.Sheets.{Sheet}
use Rattle.road_sheet.specs.QueryCaches.{IsCacheOf}
use Rattle.road_commands.proofs.laboratory.opening_caches.Given as goal

-- the caches so far, in which nothing is computed yet
abbrev pub invariant-loop-made : goal.invariant-loop-made
invariant-loop-made l = (length l.caches.items ≡ l.made) × ((sheet : Sheet) → All (IsCacheOf sheet) l.caches.items)
