-- The cars of the road are put in, and everything stored for the settings is computed again.
use Rattle.std.proofs.Common.{◌≡◌, ◌∙◌, ◌-◌, ◌<◌, ◌≤◌, length, sym, ap, subst, arith, refl}
use Rattle.std.specs.List.{All}
use Rattle.std.proofs.Math.Path.{transport}
use Rattle.std.proofs.lemmas.Bool.{false≢true}
use Rattle.std.specs.Arc.{arc_value}
use Rattle.road_plan.specs.Plan.{Plan, exit_start}
use Rattle.road_plan.specs.Settings.{Fits}
use Rattle.road_cells.specs.declared.car.Car.{Car}
use Rattle.road_columns.specs.UnderWay.{CanRun, UnderWay, zero_counts}
use Rattle.road_columns.specs.Private.Entering.{ArePlacesFrom}
use Rattle.road_columns.specs.Private.Held.{StandOn}
use Rattle.road_columns.specs.Private.Counts.{AreCounts, totals_in}
use Rattle.road_columns.specs.Private.Step.{AreRegionsOf, AreSitesOf}
use Rattle.road_columns.proofs.HeldLists.{few_rising}
use Rattle.road_columns.proofs.LongerColumns.{on_err, road_longer, running_longer}
use Rattle.road_columns.proofs.Refilled.{refilled}
use Rattle.road_columns.proofs.StretchSteps.{stand_all}
use Rattle.road_columns.proofs.TakenUp.{all_before}
use Rattle.road_columns.proofs.TotalsKept.{counts_cleared, totals_cleared}
use Rattle.road_columns.proofs.under_way.UnderWay.restart_on.Goals as goal

pub hold-requires-clause-room : goal.hold-requires-clause-room
hold-requires-clause-room c =
    let same = ap length (c.cars-many.ensures.all ∙ sym c.cars-2.ensures.all) in
    let long = c.in_ok-lengthen.ensures.long in omega arith

pub lengthen-requires : goal.lengthen-requires
lengthen-requires c =
    let start : c.length.result - c.exit.result ≡ exit_start (arc_value c.self.inside.plan) = let a = c.length.ensures.cells in let b = c.exit.ensures in let d = ap (λ (p : Plan). p.cells) c.deref.ensures in let e = ap (λ (p : Plan). p.exit) c.deref-2.ensures in omega arith in
    let can : All (CanRun c.args.stretch.first c.args.stretch.end (exit_start (arc_value c.self.inside.plan))) c.cars-many.result.now =
    transport (λ j. All (CanRun c.args.stretch.first c.args.stretch.end (start j)) ((c.cars.ensures.all ∙ sym c.cars-many.ensures.all) j)) (c.can_hold.ensures.0 c.if-not-can_hold.false) in
    let before : All (λ (car : Car). car.cell < exit_start (arc_value c.self.inside.plan)) c.cars-many.result.now = all_before c.args.stretch.first c.args.stretch.end (exit_start (arc_value c.self.inside.plan)) c.cars-many.result.now can in
    let few = few_rising (exit_start (arc_value c.self.inside.plan)) c.cars-many.result.now c.cars-many.ensures.rise before in
    let most = c.self.invariant.within.short_enough in omega arith

pub find_places-requires-clause-falling : goal.find_places-requires-clause-falling
find_places-requires-clause-falling c =
    let start : c.length.result - c.exit.result ≡ exit_start (arc_value c.self.inside.plan) = let a = c.length.ensures.cells in let b = c.exit.ensures in let d = ap (λ (p : Plan). p.cells) c.deref.ensures in let e = ap (λ (p : Plan). p.exit) c.deref-2.ensures in omega arith in
    let can : All (CanRun c.args.stretch.first c.args.stretch.end (exit_start (arc_value c.self.inside.plan))) c.cars-2.result.now =
    transport (λ j. All (CanRun c.args.stretch.first c.args.stretch.end (start j)) ((c.cars.ensures.all ∙ sym c.cars-2.ensures.all) j)) (c.can_hold.ensures.0 c.if-not-can_hold.false) in
    let before : All (λ (car : Car). car.cell < exit_start (arc_value c.self.inside.plan)) c.cars-2.result.now = all_before c.args.stretch.first c.args.stretch.end (exit_start (arc_value c.self.inside.plan)) c.cars-2.result.now can in
    let within : (arc_value c.self.inside.plan).cells ≤ 65525 = let most = c.self.invariant.within.short_enough in omega arith in
    (c.hold.ensures.cars (arc_value c.self.inside.plan) within before).falling

pub invariant_of-self : goal.invariant_of-self
invariant_of-self c =
    let i = c.self.invariant in
    let x = c.self.inside in
    let start : c.length.result - c.exit.result ≡ exit_start (arc_value c.self.inside.plan) = let a = c.length.ensures.cells in let b = c.exit.ensures in let d = ap (λ (p : Plan). p.cells) c.deref.ensures in let e = ap (λ (p : Plan). p.exit) c.deref-2.ensures in omega arith in
    let can : All (CanRun c.args.stretch.first c.args.stretch.end (exit_start (arc_value c.self.inside.plan))) c.cars-many.result.now =
    transport (λ j. All (CanRun c.args.stretch.first c.args.stretch.end (start j)) ((c.cars.ensures.all ∙ sym c.cars-many.ensures.all) j)) (c.can_hold.ensures.0 c.if-not-can_hold.false) in
    let before : All (λ (car : Car). car.cell < exit_start (arc_value c.self.inside.plan)) c.cars-many.result.now = all_before c.args.stretch.first c.args.stretch.end (exit_start (arc_value c.self.inside.plan)) c.cars-many.result.now can in
    let few = few_rising (exit_start (arc_value c.self.inside.plan)) c.cars-many.result.now c.cars-many.ensures.rise before in
    let most = c.self.invariant.within.short_enough in
    record {
      within = i.within;
      fits = i.fits;
      regions_are = i.regions_are;
      slowing_is = i.slowing_is;
      sites_are = i.sites_are;
      running = running_longer (arc_value x.plan) x.kept.sites.items x.step x.stretch.first x.stretch.end x.cars c.lengthen.new.self x.words _ x.counts (record {
        longer = c.lengthen.ensures.longer;
        source = refl;
        inlets = refl;
        drawn = λ never. absurd (false≢true never);
      }) i.running;
    }

pub returns-in_err-lengthen-clause-err : goal.returns-in_err-lengthen-clause-err
returns-in_err-lengthen-clause-err c =
    let x = c.self.inside in
    let inside : c.self.inside.cars.tail ≤ length c.self.inside.cars.cells.items = let within = c.self.invariant.running.standing.cars_are.inside in omega arith in
    on_err c.from_residual-in_err-lengthen.result ((λ j. record {
      plan = arc_value x.plan;
      settings = arc_value x.settings;
      step = x.step;
      lo = x.stretch.first;
      hi = x.stretch.end;
      road = road_longer x.cars c.lengthen.new.self c.lengthen.ensures.longer inside j;
      totals = totals_in x.counts.passes.items x.counts.totals.items;
    })
    ∙ c.self.view_is)

pub invariant_of-self-2 : goal.invariant_of-self-2
invariant_of-self-2 c =
    let i = c.self.invariant in
    let x = c.self.inside in
    let start : c.length.result - c.exit.result ≡ exit_start (arc_value c.self.inside.plan) = let a = c.length.ensures.cells in let b = c.exit.ensures in let d = ap (λ (p : Plan). p.cells) c.deref.ensures in let e = ap (λ (p : Plan). p.exit) c.deref-2.ensures in omega arith in
    let can : All (CanRun c.args.stretch.first c.args.stretch.end (exit_start (arc_value c.self.inside.plan))) c.cars-2.result.now =
    transport (λ j. All (CanRun c.args.stretch.first c.args.stretch.end (start j)) ((c.cars.ensures.all ∙ sym c.cars-2.ensures.all) j)) (c.can_hold.ensures.0 c.if-not-can_hold.false) in
    let before : All (λ (car : Car). car.cell < exit_start (arc_value c.self.inside.plan)) c.cars-2.result.now = all_before c.args.stretch.first c.args.stretch.end (exit_start (arc_value c.self.inside.plan)) c.cars-2.result.now can in
    let within : (arc_value c.self.inside.plan).cells ≤ 65525 = let most = c.self.invariant.within.short_enough in omega arith in
    let places_is = refilled c.in_ok-places.places c.deref_mut.result.now c.find_places.new.places c.deref_mut.ensures.value c.find_places.ensures.long in
    let passes_is = refilled c.self.inside.counts.passes c.deref_mut-2.result.now c.clear_counts.new.passes c.deref_mut-2.ensures.value c.clear_counts.ensures.passes_each in
    let totals_is = refilled c.self.inside.counts.totals c.deref_mut-3.result.now c.clear_counts.new.totals c.deref_mut-3.ensures.value c.clear_counts.ensures.totals_each in
    let a : length c.clear_counts.new.passes ≡ length (arc_value c.self.inside.plan).detectors = c.clear_counts.ensures.passes_each ∙ ap length c.deref_mut-2.ensures.value ∙ c.self.invariant.running.counts_are.passes_each in
    let b : length c.clear_counts.new.totals ≡ length (arc_value c.self.inside.plan).detectors = c.clear_counts.ensures.totals_each ∙ ap length c.deref_mut-3.ensures.value ∙ c.self.invariant.running.counts_are.totals_each in
    let e = c.clear_counts.ensures.passes_each in
    let f = c.clear_counts.ensures.totals_each in
    let plan_is : c.args.self.now.plan ≡ arc_value c.self.inside.plan = sym (ap (λ (run : UnderWay). run.plan) c.self.view_is) in
    let on_road : c.args.stretch.end ≤ (arc_value c.self.inside.plan).cells = let old = c.requires.on_road in let same = ap (λ (p : Plan). p.cells) plan_is in omega arith in
    record {
      within = i.within;
      fits = transport (λ j. Fits (plan_is j) (arc_value c.args.settings)) c.requires.fits;
      regions_are = transport (λ j. AreRegionsOf (c.deref-3.ensures j) (c.deref-4.ensures j) c.in_ok-kept.kept.regions.items) c.in_ok-kept.ensures.regions;
      slowing_is = c.in_ok-kept.ensures.slowing;
      sites_are = subst (λ p. AreSitesOf p c.in_ok-kept.kept.regions.items c.in_ok-kept.kept.sites.items) c.deref-3.ensures c.in_ok-kept.ensures.sites;
      running = record {
        up_to = c.requires.up_to;
        on_road = on_road;
        standing = record {
          source_is = i.running.standing.source_is;
          inlets_each = i.running.standing.inlets_each;
          cars_are = c.hold.ensures.cars (arc_value c.self.inside.plan) within before;
          places_are = transport (λ j. ArePlacesFrom c.hold.new.self.cells.items c.hold.new.self.head c.hold.new.self.tail (c.deref-5.ensures.value j) (sym places_is j)) c.find_places.ensures.places;
        };
        stand = subst (StandOn c.args.stretch.first c.args.stretch.end) (sym c.hold.ensures.road)
            (stand_all c.args.stretch.first c.args.stretch.end (exit_start (arc_value c.self.inside.plan)) c.cars-2.result.now can);
        counts_are = transport (λ j. AreCounts (length (arc_value c.self.inside.plan).detectors) c.args.step (sym passes_is j) (sym totals_is j))
            (counts_cleared (length (arc_value c.self.inside.plan).detectors) c.args.step c.clear_counts.new.passes c.clear_counts.new.totals a b
            (λ d below. c.clear_counts.ensures.passes d (omega arith)) (λ d below. c.clear_counts.ensures.totals d (omega arith)));
        words_are = λ never. absurd (false≢true never);
      };
    }

pub returns-clause-taken : goal.returns-clause-taken
returns-clause-taken c _ =
    let x = c.self.inside in
    let passes_is = refilled c.self.inside.counts.passes c.deref_mut-2.result.now c.clear_counts.new.passes c.deref_mut-2.ensures.value c.clear_counts.ensures.passes_each in
    let totals_is = refilled c.self.inside.counts.totals c.deref_mut-3.result.now c.clear_counts.new.totals c.deref_mut-3.ensures.value c.clear_counts.ensures.totals_each in
    let a : length c.clear_counts.new.passes ≡ length (arc_value c.self.inside.plan).detectors = c.clear_counts.ensures.passes_each ∙ ap length c.deref_mut-2.ensures.value ∙ c.self.invariant.running.counts_are.passes_each in
    let b : length c.clear_counts.new.totals ≡ length (arc_value c.self.inside.plan).detectors = c.clear_counts.ensures.totals_each ∙ ap length c.deref_mut-3.ensures.value ∙ c.self.invariant.running.counts_are.totals_each in
    let e = c.clear_counts.ensures.passes_each in
    let f = c.clear_counts.ensures.totals_each in
    let plan_is : arc_value c.self.inside.plan ≡ c.args.self.now.plan = ap (λ (run : UnderWay). run.plan) c.self.view_is in
    (λ j. record {
      plan = plan_is j;
      settings = arc_value c.args.settings;
      step = c.args.step;
      lo = c.args.stretch.first;
      hi = c.args.stretch.end;
      road = (c.hold.ensures.road ∙ c.cars-2.ensures.road) j;
      totals = ((λ k. totals_in (passes_is k) (totals_is k)) ∙ totals_cleared (length (arc_value c.self.inside.plan).detectors) c.args.step c.clear_counts.new.passes c.clear_counts.new.totals a b
          (λ d below. c.clear_counts.ensures.passes d (omega arith)) (λ d below. c.clear_counts.ensures.totals d (omega arith)) ∙ ap zero_counts plan_is) j;
    })
