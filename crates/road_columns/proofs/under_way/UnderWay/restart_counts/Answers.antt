-- Only the counts change.
use Rattle.std.proofs.Common.{◌≡◌, ◌∙◌, length, sym, ap, arith}
use Rattle.std.proofs.Math.Path.{transport}
use Rattle.std.specs.Arc.{arc_value}
use Rattle.road_columns.specs.UnderWay.{UnderWay, zero_counts}
use Rattle.road_columns.specs.Private.Cars.{road_of}
use Rattle.road_columns.specs.Private.Counts.{AreCounts, totals_in}
use Rattle.road_columns.proofs.Refilled.{refilled}
use Rattle.road_columns.proofs.TotalsKept.{counts_cleared, totals_cleared}
use Rattle.road_columns.proofs.under_way.UnderWay.restart_counts.Goals as goal

pub invariant_of-self : goal.invariant_of-self
invariant_of-self c =
    let i = c.self.invariant in
    let x = c.self.inside in
    let passes_is = refilled c.self.inside.counts.passes c.deref_mut.result.now c.clear_counts.new.passes c.deref_mut.ensures.value c.clear_counts.ensures.passes_each in
    let totals_is = refilled c.self.inside.counts.totals c.deref_mut-2.result.now c.clear_counts.new.totals c.deref_mut-2.ensures.value c.clear_counts.ensures.totals_each in
    let a : length c.clear_counts.new.passes ≡ length (arc_value c.self.inside.plan).detectors = c.clear_counts.ensures.passes_each ∙ ap length c.deref_mut.ensures.value ∙ c.self.invariant.running.counts_are.passes_each in
    let b : length c.clear_counts.new.totals ≡ length (arc_value c.self.inside.plan).detectors = c.clear_counts.ensures.totals_each ∙ ap length c.deref_mut-2.ensures.value ∙ c.self.invariant.running.counts_are.totals_each in
    let e = c.clear_counts.ensures.passes_each in
    let f = c.clear_counts.ensures.totals_each in
    record {
      within = i.within;
      fits = i.fits;
      regions_are = i.regions_are;
      slowing_is = i.slowing_is;
      sites_are = i.sites_are;
      running = record {
        up_to = i.running.up_to;
        on_road = i.running.on_road;
        standing = i.running.standing;
        stand = i.running.stand;
        counts_are = transport (λ j. AreCounts (length (arc_value x.plan).detectors) x.step (sym passes_is j) (sym totals_is j))
            (counts_cleared (length (arc_value c.self.inside.plan).detectors) c.self.inside.step c.clear_counts.new.passes c.clear_counts.new.totals a b
            (λ d below. c.clear_counts.ensures.passes d (omega arith)) (λ d below. c.clear_counts.ensures.totals d (omega arith)));
        words_are = i.running.words_are;
      };
    }

pub returns : goal.returns
returns c =
    let x = c.self.inside in
    let passes_is = refilled c.self.inside.counts.passes c.deref_mut.result.now c.clear_counts.new.passes c.deref_mut.ensures.value c.clear_counts.ensures.passes_each in
    let totals_is = refilled c.self.inside.counts.totals c.deref_mut-2.result.now c.clear_counts.new.totals c.deref_mut-2.ensures.value c.clear_counts.ensures.totals_each in
    let a : length c.clear_counts.new.passes ≡ length (arc_value c.self.inside.plan).detectors = c.clear_counts.ensures.passes_each ∙ ap length c.deref_mut.ensures.value ∙ c.self.invariant.running.counts_are.passes_each in
    let b : length c.clear_counts.new.totals ≡ length (arc_value c.self.inside.plan).detectors = c.clear_counts.ensures.totals_each ∙ ap length c.deref_mut-2.ensures.value ∙ c.self.invariant.running.counts_are.totals_each in
    let e = c.clear_counts.ensures.passes_each in
    let f = c.clear_counts.ensures.totals_each in
    (λ j. record {
      plan = arc_value x.plan;
      settings = arc_value x.settings;
      step = x.step;
      lo = x.stretch.first;
      hi = x.stretch.end;
      road = road_of x.cars;
      totals = ((λ k. totals_in (passes_is k) (totals_is k)) ∙ totals_cleared (length (arc_value c.self.inside.plan).detectors) c.self.inside.step c.clear_counts.new.passes c.clear_counts.new.totals a b
          (λ d below. c.clear_counts.ensures.passes d (omega arith)) (λ d below. c.clear_counts.ensures.totals d (omega arith))) j;
    })
    ∙ ap (λ (run : UnderWay). record {
      plan = run.plan;
      settings = run.settings;
      step = run.step;
      lo = run.lo;
      hi = run.hi;
      road = run.road;
      totals = zero_counts run.plan;
    }) c.self.view_is
