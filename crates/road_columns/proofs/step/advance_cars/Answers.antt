-- The cars of all regions move.
use Rattle.std.proofs.Common.{◌≡◌, ◌+◌, ◌*◌, ◌/◌, ◌%◌, ◌<◌, ◌≤◌, ℕ, length, slice_index, sym, ap, subst, arith, refl, rules}
use Rattle.std.specs.Prelude.{slice_range}
use Rattle.std.proofs.Math.Path.{transport}
use Rattle.road_columns.specs.Private.EnteredList.{ArePlacesRising}
use Rattle.road_columns.specs.Private.Regions.{AreEndsOf, IsOfRegion, region_at}
use Rattle.road_columns.proofs.CarsAdvanced.{AreAdvanced, blocks_ahead, ends_are, moves}
use Rattle.road_columns.proofs.Refilled.{refilled}
use Rattle.road_columns.proofs.StepSites.{rises_from, stand_before}
use Rattle.road_columns.proofs.step.advance_cars.Goals as goal

pub advance_regions-requires-clause-limits : goal.advance_regions-requires-clause-limits
advance_regions-requires-clause-limits c r below = (c.requires.ready.layout.regions_are.each r below).limit_allowed

pub advance_regions-requires-clause-words : goal.advance_regions-requires-clause-words
advance_regions-requires-clause-words c =
    let ready = c.requires.ready in
    let inside = ready.standing.cars_are.inside in
    let wide = c.width-width.ensures in
    let rows = ready.words_are.rows_each in
    record {
      row = search rules;
      beside = search rules;
      rising = subst (ArePlacesRising c.args.words.now.entered) (sym c.deref-2.ensures.value) ready.words_are.entered.rising;
      high = subst (λ xs. (i : ℕ) → i < c.args.words.now.entered → slice_index xs i < c.args.cars.now.tail) (sym c.deref-2.ensures.value)
          (stand_before c.args.words.now.entered c.args.cars.now.tail c.args.words.now.beside.items c.args.words.now.batches.items ready.words_are.entered.in_order);
      places = subst (λ xs. (i : ℕ) → i < c.args.words.now.entered → i ≤ slice_index xs i) (sym c.deref-2.ensures.value)
          (rises_from c.args.words.now.entered c.args.words.now.beside.items ready.words_are.entered.rising);
    }

pub advance_regions-requires-clause-ends : goal.advance_regions-requires-clause-ends
advance_regions-requires-clause-ends c =
    let g = c.args.layout.now in
    let start = length c.inlets.result.now + length c.detectors.result.now in
    let starts : length c.inlets.result.now + length c.detectors.result.now ≡ length c.args.layout.now.plan.now.inlets + length c.args.layout.now.plan.now.detectors = let a = ap length c.inlets.ensures.inlets in let b = ap length c.detectors.ensures.detectors in omega arith in
    subst (λ xs. AreEndsOf (length g.regions.now) c.args.cars.now.head c.args.cars.now.tail (slice_range xs start (length g.sites.now))) (sym c.deref-4.ensures.value)
    (ends_are g (64 * (c.args.step / 64)) (c.args.step % 64) (length g.plan.now.inlets) c.args.cars.now c.args.words.now c.requires.ready start starts)

pub advance_regions-requires-clause-blocks : goal.advance_regions-requires-clause-blocks
advance_regions-requires-clause-blocks c =
    let g = c.args.layout.now in
    let start = length c.inlets.result.now + length c.detectors.result.now in
    let starts : length c.inlets.result.now + length c.detectors.result.now ≡ length c.args.layout.now.plan.now.inlets + length c.args.layout.now.plan.now.detectors = let a = ap length c.inlets.ensures.inlets in let b = ap length c.detectors.ensures.detectors in omega arith in
    transport (λ j. (r q : ℕ) → IsOfRegion (length g.regions.now) (slice_range (sym c.deref-4.ensures.value j) start (length g.sites.now)) r q → c.args.cars.now.head ≤ q → slice_index (sym c.deref_mut.ensures.value j) q < (region_at g.regions.now r).block)
    (blocks_ahead g (64 * (c.args.step / 64)) (c.args.step % 64) (length g.plan.now.inlets) c.args.cars.now c.args.words.now c.requires.ready start starts)

pub returns : goal.returns
returns c =
    let g = c.args.layout.now in
    let old = c.args.cars.now in
    let k = c.args.step % 64 in
    let done = c.advance_regions.ensures in
    let wide = c.width-width.ensures in
    let start = length c.inlets.result.now + length c.detectors.result.now in
    let starts : length c.inlets.result.now + length c.detectors.result.now ≡ length c.args.layout.now.plan.now.inlets + length c.args.layout.now.plan.now.detectors = let a = ap length c.inlets.ensures.inlets in let b = ap length c.detectors.ensures.detectors in omega arith in
    let cells_is = refilled c.args.cars.now.cells c.deref_mut.result.now c.advance_regions.new.cells c.deref_mut.ensures.value c.advance_regions.ensures.moves.cells_each in
    let speeds_is = refilled c.args.cars.now.speeds c.deref_mut-2.result.now c.advance_regions.new.speeds c.deref_mut-2.ensures.value c.advance_regions.ensures.moves.speeds_each in
    moves g c.args.step (length g.plan.now.inlets) old _ c.args.words.now c.requires.ready start starts
    (transport (λ j. AreAdvanced g.regions.now (slice_range (c.deref-4.ensures.value j) start (length g.sites.now)) (slice_range (c.deref.ensures.value j) (k * wide j) (k * wide j + wide j)) (c.index_at.ensures j)
    c.args.words.now.entered (c.deref-2.ensures.value j) (c.deref-3.ensures.value j) old.head old.tail (c.deref_mut.ensures.value j) (c.deref_mut-2.ensures.value j) (sym cells_is j) (sym speeds_is j))
    (record {
      all = done.moves;
      by_regions = done.speeds;
    }))
    refl refl refl refl
