-- A run that is shown by a sheet is shown by each sheet with the same plan and edits.
use Rattle.std.proofs.Common.{◌≡◌, ◌∙◌, ap, subst}
use Rattle.std.proofs.lemmas.Option.{IfSome_then}
use Rattle.road_plan.specs.Plan.{Plan}
use Rattle.road_scenario.specs.Edits.{Edits}
use Rattle.road_scenario.specs.Settings.{settings_of}
use Rattle.road_sheet.specs.QueryCaches.{IsCacheOf}
use Rattle.road_sheet.specs.SettingsCaches.{AreCached}
use Rattle.road_sheet.specs.Sheets.{Sheet}
use Rattle.road_sheet.specs.Shown.{run_at}
use Rattle.road_sheet.specs.ShownRuns.{IsShownBy}
use Rattle.road_sheet.specs.declared.query_cache.QueryCache.{QueryCache}
use Rattle.road_sheet.specs.declared.shown_run.ShownRun.{ShownRun}

shown_by_both : (s t : Sheet) (shown : ShownRun) → s.plan ≡ t.plan → s.edits ≡ t.edits → IsShownBy s shown → IsShownBy t shown
shown_by_both s t shown plan edits is = record {
  plan = is.plan ∙ plan;
  begin = is.begin;
  end = is.end ∙ ap (λ (p : Plan). p.cells) plan;
  road = is.road ∙ (λ i. run_at (plan i) (edits i) shown.run.step);
  under = is.under ∙ (λ i. settings_of (plan i) (edits i) shown.under);
  cached = subst (λ (es : Edits). AreCached t.plan es shown.settings) edits (subst (λ (p : Plan). AreCached p s.edits shown.settings) plan is.cached);
}

-- a cache of a sheet is a cache of each sheet with the same plan and edits
pub same_run : (s t : Sheet) (cache : QueryCache) → s.plan ≡ t.plan → s.edits ≡ t.edits → IsCacheOf s cache → IsCacheOf t cache
same_run s t cache plan edits is = record {
  run = IfSome_then cache.run is.run (λ shown by. shown_by_both s t shown plan edits by);
  spare = IfSome_then cache.spare is.spare (λ run of. of ∙ plan);
}
