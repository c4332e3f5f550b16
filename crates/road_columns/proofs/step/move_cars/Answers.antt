-- The cars have moved: they are counted, the places move on, and the first car may leave.
use Rattle.std.proofs.Common.{◌≡◌, ◌∙◌, ◌+◌, ◌-◌, ◌%◌, ◌<◌, false, length, slice_index, slice_index_or, sym, ap, subst, arith, refl}
use Rattle.std.specs.Prelude.{slice_range}
use Rattle.std.specs.Vec.{with_items}
use Rattle.std.proofs.Math.Path.{transport}
use Rattle.road_plan.specs.Plan.{exit_start}
use Rattle.road_columns.specs.Private.Entering.{place_on}
use Rattle.road_columns.specs.Private.Sites.{IsOfSteps, passes_of, totals_of_count}
use Rattle.road_columns.specs.declared.cars.CarColumns.{CarColumns}
use Rattle.road_columns.specs.Private.Step.{LetsLeave}
use Rattle.road_columns.proofs.CarsAdvanced.{counted_is, counted_more, left_ready, left_road, one_goes}
use Rattle.road_columns.proofs.ColumnPlaces.{range_at, range_long}
use Rattle.road_columns.proofs.Refilled.{refilled}
use Rattle.road_columns.proofs.StepSites.{detector_site}
use Rattle.road_columns.proofs.step.move_cars.Goals as goal

pub leave-cars-requires-clause-one : goal.leave-cars-requires-clause-one
leave-cars-requires-clause-one c i above below =
    let moved = c.advance_cars.new.cars in
    let exit : c.length.result - c.exit.result ≡ exit_start c.args.layout.now.plan.now = let a = c.length.ensures.cells in let b = c.exit.ensures in omega arith in
    transport (λ j. slice_index (sym c.deref_mut-3.ensures.value j) i < sym exit j)
    (one_goes c.args.layout.now c.args.step c.args.cars.now moved moved c.args.words.now c.requires.ready c.advance_cars.ensures i above below)

pub returns-clause-ready : goal.returns-clause-ready
returns-clause-ready c =
    let g = c.args.layout.now in
    let moved = c.advance_cars.new.cars in
    let exit : c.length.result - c.exit.result ≡ exit_start c.args.layout.now.plan.now = let a = c.length.ensures.cells in let b = c.exit.ensures in omega arith in
    let cells_is = refilled c.advance_cars.new.cars.cells c.deref_mut-3.result.now c.leave-cars.new.cells c.deref_mut-3.ensures.value c.leave-cars.ensures.long in
    let places_is = refilled c.advance_cars.new.cars.places c.deref_mut-2.result.now c.move_on.new.places c.deref_mut-2.ensures.value c.move_on.ensures.long in
    left_ready g c.args.step c.args.cars.now moved _ c.args.words.now c.requires.ready c.advance_cars.ensures
    (transport (λ j. LetsLeave (exit j) (c.deref_mut-3.ensures.value j) (sym cells_is j) moved.head c.leave-cars.result moved.tail)
    c.leave-cars.ensures)
    refl refl refl (ap length places_is ∙ c.move_on.ensures.long ∙ ap length c.deref_mut-2.ensures.value)
    (λ d below. ap (λ xs. slice_index xs d) places_is ∙ c.move_on.ensures.places d below ∙ (λ j. place_on (c.deref-4.ensures.value j) (slice_index g.sites.now d) (slice_index (c.deref_mut-2.ensures.value j) d)))

pub returns-clause-road : goal.returns-clause-road
returns-clause-road c b on_road columns =
    let g = c.args.layout.now in
    let moved = c.advance_cars.new.cars in
    let exit : c.length.result - c.exit.result ≡ exit_start c.args.layout.now.plan.now = let a = c.length.ensures.cells in let b = c.exit.ensures in omega arith in
    let cells_is = refilled c.advance_cars.new.cars.cells c.deref_mut-3.result.now c.leave-cars.new.cells c.deref_mut-3.ensures.value c.leave-cars.ensures.long in
    let places_is = refilled c.advance_cars.new.cars.places c.deref_mut-2.result.now c.move_on.new.places c.deref_mut-2.ensures.value c.move_on.ensures.long in
    let size : length (with_items c.advance_cars.new.cars.cells c.leave-cars.new.cells).items ≡ length c.advance_cars.new.cars.cells.items = ap length cells_is ∙ c.leave-cars.ensures.long ∙ ap length c.deref_mut-3.ensures.value in
    let short = c.advance_cars.new.cars.short in
    let from = c.advance_cars.new.cars.from in
    let inside = c.advance_cars.new.cars.inside in
    let gone = c.leave-cars.ensures.from in
    let cars : CarColumns = record {
      cells = with_items c.advance_cars.new.cars.cells c.leave-cars.new.cells;
      speeds = c.advance_cars.new.cars.speeds;
      numbers = c.advance_cars.new.cars.numbers;
      head = c.leave-cars.result;
      tail = c.advance_cars.new.cars.tail;
      places = with_items c.advance_cars.new.cars.places c.move_on.new.places;
      short = omega arith;
      speeds_each = c.advance_cars.new.cars.speeds_each ∙ sym size;
      numbers_each = c.advance_cars.new.cars.numbers_each ∙ sym size;
      from = omega arith;
      order = c.leave-cars.ensures.order;
      inside = omega arith;
    } in
    left_road g c.args.step c.args.cars.now moved cars c.args.words.now c.requires.ready c.advance_cars.ensures
    (transport (λ j. LetsLeave (exit j) (c.deref_mut-3.ensures.value j) (sym cells_is j) moved.head c.leave-cars.result moved.tail)
    c.leave-cars.ensures)
    refl refl refl (ap length places_is ∙ c.move_on.ensures.long ∙ ap length c.deref_mut-2.ensures.value)
    (λ d below. ap (λ xs. slice_index xs d) places_is ∙ c.move_on.ensures.places d below ∙ (λ j. place_on (c.deref-4.ensures.value j) (slice_index g.sites.now d) (slice_index (c.deref_mut-2.ensures.value j) d)))
    b on_road columns

pub returns-clause-counted : goal.returns-clause-counted
returns-clause-counted c d below =
    let g = c.args.layout.now in
    let moved = c.advance_cars.new.cars in
    let start = length c.inlets-inlets.result.now in
    let end = length c.inlets-inlets.result.now + length c.detectors.result.now in
    let first : length c.inlets-inlets.result.now ≡ length c.args.layout.now.plan.now.inlets = ap length c.inlets-inlets.ensures.inlets in
    let many : length c.detectors.result.now ≡ length c.args.layout.now.plan.now.detectors = ap length c.detectors.ensures.detectors in
    let sites = c.requires.ready.layout.sites_are.as_many in
    let each = c.requires.passes in
    let in_plan : d < length c.args.layout.now.plan.now.detectors = omega arith in
    let inside : d < length (slice_range c.args.layout.now.sites.now (length c.inlets-inlets.result.now) (length c.inlets-inlets.result.now + length c.detectors.result.now)) =
    let size = range_long c.args.layout.now.sites.now (length c.inlets-inlets.result.now) (length c.inlets-inlets.result.now + length c.detectors.result.now) (omega arith) in omega arith in
    let site_is = range_at g.sites.now start end d (omega arith)
    ∙ detector_site g.plan.now g.regions.now g.sites.now c.requires.ready.layout.sites_are c.args.cars.now.cells.items c.args.cars.now.places.items c.args.cars.now.head c.args.cars.now.tail c.requires.ready.standing.places_are start first d in_plan in
    let place_is = range_at c.deref-3.result.now start end d (omega arith) ∙ ap (λ xs. slice_index xs (start + d)) (c.deref-3.ensures.value ∙ c.advance_cars.ensures.places) in
    let watched_is = ap (λ w. slice_index_or w d false) c.watched.ensures in
    let passes_is = refilled c.args.counts.now.passes c.deref_mut.result.now c.count.new.passes c.deref_mut.ensures.value c.count.ensures.as_many_passes in
    let place = slice_index c.args.cars.now.places.items (start + d) in
    let before = slice_index c.args.counts.now.passes.items d in
    let counted : slice_index (with_items c.args.counts.now.passes c.count.new.passes).items d ≡ before + passes_of moved.cells.items moved.speeds.items (slice_index_or g.settings.now.watched d false) (slice_index g.plan.now.detectors d) place =
    ap (λ xs. slice_index xs d) passes_is ∙ c.count.ensures.passes d inside
    ∙ (λ j. slice_index (c.deref_mut.ensures.value j) d + passes_of (c.deref.ensures.value j) (c.deref-2.ensures.value j) (watched_is j) (site_is j) (place_is j)) in
    subst (IsOfSteps (c.args.step % 64 + 1)) (sym counted)
    (counted_more g c.args.step c.args.cars.now moved moved c.args.words.now c.requires.ready c.advance_cars.ensures d place before start in_plan first refl (c.requires.counted d below))

pub returns-clause-passes : goal.returns-clause-passes
returns-clause-passes c b on_road columns d below =
    let g = c.args.layout.now in
    let moved = c.advance_cars.new.cars in
    let start = length c.inlets-inlets.result.now in
    let end = length c.inlets-inlets.result.now + length c.detectors.result.now in
    let first : length c.inlets-inlets.result.now ≡ length c.args.layout.now.plan.now.inlets = ap length c.inlets-inlets.ensures.inlets in
    let many : length c.detectors.result.now ≡ length c.args.layout.now.plan.now.detectors = ap length c.detectors.ensures.detectors in
    let sites = c.requires.ready.layout.sites_are.as_many in
    let each = c.requires.passes in
    let in_plan : d < length c.args.layout.now.plan.now.detectors = omega arith in
    let inside : d < length (slice_range c.args.layout.now.sites.now (length c.inlets-inlets.result.now) (length c.inlets-inlets.result.now + length c.detectors.result.now)) =
    let size = range_long c.args.layout.now.sites.now (length c.inlets-inlets.result.now) (length c.inlets-inlets.result.now + length c.detectors.result.now) (omega arith) in omega arith in
    let site_is = range_at g.sites.now start end d (omega arith)
    ∙ detector_site g.plan.now g.regions.now g.sites.now c.requires.ready.layout.sites_are c.args.cars.now.cells.items c.args.cars.now.places.items c.args.cars.now.head c.args.cars.now.tail c.requires.ready.standing.places_are start first d in_plan in
    let place_is = range_at c.deref-3.result.now start end d (omega arith) ∙ ap (λ xs. slice_index xs (start + d)) (c.deref-3.ensures.value ∙ c.advance_cars.ensures.places) in
    let watched_is = ap (λ w. slice_index_or w d false) c.watched.ensures in
    let passes_is = refilled c.args.counts.now.passes c.deref_mut.result.now c.count.new.passes c.deref_mut.ensures.value c.count.ensures.as_many_passes in
    let place = slice_index c.args.cars.now.places.items (start + d) in
    let before = slice_index c.args.counts.now.passes.items d in
    let counted : slice_index (with_items c.args.counts.now.passes c.count.new.passes).items d ≡ before + passes_of moved.cells.items moved.speeds.items (slice_index_or g.settings.now.watched d false) (slice_index g.plan.now.detectors d) place =
    ap (λ xs. slice_index xs d) passes_is ∙ c.count.ensures.passes d inside
    ∙ (λ j. slice_index (c.deref_mut.ensures.value j) d + passes_of (c.deref.ensures.value j) (c.deref-2.ensures.value j) (watched_is j) (site_is j) (place_is j)) in
    ap totals_of_count counted
    ∙ counted_is g c.args.step c.args.cars.now moved moved c.args.words.now c.requires.ready c.advance_cars.ensures d place before start in_plan first refl (c.requires.counted d below) b on_road columns
