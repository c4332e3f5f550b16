-- The query cache: the run that the last query left under way.
use Rattle.std.specs.Prelude.{◌≡◌, IfSome}
use Rattle.road_sheet.specs.Sheets.{Sheet}
use Rattle.road_sheet.specs.ShownRuns.{IsShownBy}
use Rattle.road_sheet.specs.declared.query_cache.QueryCache.{QueryCache}

-- if the cache has a run, that is what the sheet shows; if it has a spare run, that is of the sheet's plan
pub record IsCacheOf (sheet : Sheet) (cache : QueryCache) : Type 0 where
  pub run : IfSome cache.run (IsShownBy sheet)
  pub spare : IfSome cache.spare (λ run. run.plan ≡ sheet.plan)
