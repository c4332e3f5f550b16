-- Everything stored for the settings is computed again, with the places of the sites.
use Rattle.std.proofs.Common.{◌≡◌, sym, ap, subst}
use Rattle.std.proofs.Math.Path.{transport}
use Rattle.std.specs.Arc.{arc_value}
use Rattle.road_plan.specs.Settings.{Fits}
use Rattle.road_columns.specs.UnderWay.{UnderWay}
use Rattle.road_columns.specs.Private.Entering.{ArePlacesFrom}
use Rattle.road_columns.specs.Private.Step.{AreRegionsOf, AreSitesOf}
use Rattle.road_columns.proofs.Refilled.{refilled}
use Rattle.road_columns.proofs.under_way.UnderWay.change.Goals as goal

pub invariant_of-self : goal.invariant_of-self
invariant_of-self c =
    let i = c.self.invariant in
    let x = c.self.inside in
    let st = c.self.invariant.running.standing in
    let plan_is : c.args.self.now.plan ≡ arc_value c.self.inside.plan = sym (ap (λ (run : UnderWay). run.plan) c.self.view_is) in
    let places_is = refilled c.in_ok-places.places c.deref_mut.result.now c.find_places.new.places c.deref_mut.ensures.value c.find_places.ensures.long in
    record {
      within = i.within;
      fits = subst (λ p. Fits p (arc_value c.args.later)) plan_is c.requires.fits;
      regions_are = transport (λ j. AreRegionsOf (c.deref.ensures j) (c.deref-2.ensures j) c.in_ok-kept.kept.regions.items) c.in_ok-kept.ensures.regions;
      slowing_is = c.in_ok-kept.ensures.slowing;
      sites_are = subst (λ p. AreSitesOf p c.in_ok-kept.kept.regions.items c.in_ok-kept.kept.sites.items) c.deref.ensures c.in_ok-kept.ensures.sites;
      running = record {
        up_to = i.running.up_to;
        on_road = i.running.on_road;
        standing = record {
          source_is = st.source_is;
          inlets_each = st.inlets_each;
          cars_are = st.cars_are;
          places_are = transport (λ j. ArePlacesFrom x.cars.cells.items x.cars.head x.cars.tail (c.deref-3.ensures.value j) (sym places_is j)) c.find_places.ensures.places;
        };
        stand = i.running.stand;
        counts_are = i.running.counts_are;
        words_are = λ on.
            let w = i.running.words_are on in
            record { rows_each = w.rows_each; entered = w.entered; of_cars = w.of_cars; inlet_words = w.inlet_words };
      };
    }
