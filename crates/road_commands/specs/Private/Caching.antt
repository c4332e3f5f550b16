-- Facts about a laboratory, and about the caches of its replicas' queries.
use Rattle.std.specs.Prelude.{◌≡◌, ◌≤◌, ℕ, List, length}
use Rattle.std.specs.List.{slice_get}
use Rattle.std.specs.declared.option.Option.TheVariants.{Some}
use Rattle.road_plan.specs.declared.limits.TheConstants.{MOST_REPLICAS}
use Rattle.road_sheet.specs.QueryCaches.{IsCacheOf}
use Rattle.road_sheet.specs.declared.query_cache.QueryCache.{QueryCache}
use Rattle.road_world.specs.Answers.{sheet_at}
use Rattle.road_world.specs.Events.{World, world_of_winners}

-- each cache is a cache of the run of its replica
abbrev pub AreCachesOf : World → List QueryCache → Type 0
AreCachesOf w caches = (r : ℕ) (cache : QueryCache) → slice_get caches r ≡ Some cache → IsCacheOf (sheet_at w r) cache

-- each name has a replica, and each replica a cache; replicas and messages have only winners
pub record IsCached (names : List (List ℕ)) (w : World) (caches : List QueryCache) : Type 0 where
  pub few : length names ≤ MOST_REPLICAS
  pub replicas : length w.replicas ≡ length names
  pub winners : world_of_winners w ≡ w
  pub each : length caches ≡ length names
  pub cached : AreCachesOf w caches
