-- The cache is a cache of the sheet.
use Rattle.road_sheet.specs.QueryCaches.{IsCacheOf}
use Rattle.tests_sheets.proofs.scripts.all_states_agree.Given as goal

abbrev pub invariant-loop-place : goal.invariant-loop-place
invariant-loop-place l = IsCacheOf l.sheet l.cache
