-- A new run: all memory is made, and the cars are inserted.
use Rattle.std.proofs.Common.{◌≡◌, ◌∙◌, length, sym, ap, subst, arith}
use Rattle.std.proofs.Math.Path.{transport}
use Rattle.std.proofs.lemmas.Bool.{false≢true}
use Rattle.std.specs.Arc.{arc_value}
use Rattle.road_plan.specs.Plan.{IsWithinLimits, Plan, exit_start}
use Rattle.road_words.specs.Words.{word}
use Rattle.road_columns.specs.Private.Entering.{ArePlacesFrom}
use Rattle.road_columns.specs.Private.Held.{StandOn}
use Rattle.road_columns.specs.Private.Step.{AreCarsInColumn, AreRegionsOf, AreSitesOf}
use Rattle.road_columns.proofs.StretchSteps.{stand_all}
use Rattle.road_columns.proofs.TotalsKept.{counts_cleared, totals_cleared}
use Rattle.road_columns.proofs.under_way.UnderWay.of_cars.Goals as goal

pub invariant_of-result : goal.invariant_of-result
invariant_of-result c =
    let plan = arc_value c.args.plan in
    let kept = c.in_ok-kept.kept in
    let columns = c.in_ok-columns.columns in
    let counts = c.in_ok-counts.counts in
    let first = c.args.stretch.first in
    let end = c.args.stretch.end in
    let detectors : length c.detectors.result.now ≡ length (arc_value c.args.plan).detectors = ap length c.detectors.ensures.detectors ∙ ap (λ (p : Plan). length p.detectors) c.deref-6.ensures in
    record {
      within = subst IsWithinLimits c.deref-6.ensures c.detectors.ensures.within;
      fits = c.requires.fits;
      regions_are = transport (λ j. AreRegionsOf (c.deref.ensures j) (c.deref-2.ensures j) kept.regions.items) c.in_ok-kept.ensures.regions;
      slowing_is = c.in_ok-kept.ensures.slowing;
      sites_are = subst (λ p. AreSitesOf p kept.regions.items kept.sites.items) c.deref.ensures c.in_ok-kept.ensures.sites;
      running = record {
        up_to = c.requires.up_to;
        on_road = c.requires.on_road;
        standing = record {
          source_is = λ stream place. c.in_ok-words.ensures.source stream place ∙ ap (λ (p : Plan). word p.words stream place) c.deref-5.ensures;
          inlets_each = c.in_ok-words.ensures.inlets ∙ ap (λ (p : Plan). length p.inlets) c.deref-5.ensures;
          cars_are = subst (λ p. AreCarsInColumn p columns.head columns.tail columns.cells.items) c.deref-3.ensures c.in_ok-columns.ensures.cars;
          places_are = subst (λ sites. ArePlacesFrom columns.cells.items columns.head columns.tail sites columns.places.items) c.deref-4.ensures.value c.in_ok-columns.ensures.places;
        };
        stand = subst (StandOn first end) (sym c.in_ok-columns.ensures.road) (stand_all first end (exit_start plan) c.args.cars.now c.requires.can_run);
        counts_are = counts_cleared (length plan.detectors) c.args.step counts.passes.items counts.totals.items
            (c.in_ok-counts.ensures.passes_each ∙ detectors) (c.in_ok-counts.ensures.totals_each ∙ detectors)
            (λ d below. c.in_ok-counts.ensures.passes d (omega arith)) (λ d below. c.in_ok-counts.ensures.totals d (omega arith));
        words_are = λ drawn. absurd (false≢true (sym c.in_ok-words.ensures.drawn ∙ drawn));
      };
    }

pub returns : goal.returns
returns c =
    let detectors : length c.detectors.result.now ≡ length (arc_value c.args.plan).detectors = ap length c.detectors.ensures.detectors ∙ ap (λ (p : Plan). length p.detectors) c.deref-6.ensures in
    (λ j. record {
      plan = arc_value c.args.plan;
      settings = arc_value c.args.settings;
      step = c.args.step;
      lo = c.args.stretch.first;
      hi = c.args.stretch.end;
      road = c.in_ok-columns.ensures.road j;
      totals = totals_cleared (length (arc_value c.args.plan).detectors) c.args.step c.in_ok-counts.counts.passes.items c.in_ok-counts.counts.totals.items
          (c.in_ok-counts.ensures.passes_each ∙ detectors) (c.in_ok-counts.ensures.totals_each ∙ detectors)
          (λ d below. c.in_ok-counts.ensures.passes d (omega arith)) (λ d below. c.in_ok-counts.ensures.totals d (omega arith)) j;
    })
