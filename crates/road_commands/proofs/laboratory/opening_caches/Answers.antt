-- One more cache, in which nothing is computed yet.
use Rattle.std.proofs.Common.{◌+◌, ◌∙◌, length, List, ap, sym, subst}
use Rattle.std.specs.List.{All}
use Rattle.std.proofs.lemmas.List.{length-append}
use Rattle.std.proofs.lemmas.List.Elements.{All-push}
use Rattle.road_sheet.specs.QueryCaches.{IsCacheOf}
use Rattle.road_sheet.specs.declared.query_cache.QueryCache.{QueryCache}
use Rattle.road_commands.proofs.laboratory.opening_caches.Goals as goal

pub loop-made-preserved : goal.loop-made-preserved
loop-made-preserved c = (
  ap (λ (xs : List QueryCache). length xs) c.in_ok-push.ensures.items ∙ length-append c.loop-made.caches.items _ ∙ ap (λ n. n + 1) c.loop-made.invariant.0,
  λ sheet. subst (All (IsCacheOf sheet)) (sym c.in_ok-push.ensures.items)
      (All-push (IsCacheOf sheet) c.loop-made.caches.items c.new.result (c.loop-made.invariant.1 sheet) (c.new.ensures sheet)),
)
