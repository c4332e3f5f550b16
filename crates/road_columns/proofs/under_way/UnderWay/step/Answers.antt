-- After a step the parts of the run fit together again, and the run that callers see is the next one.
use Rattle.std.proofs.Common.{◌≡◌, ◌≤◌, ◌∙◌, ◌+◌, List, length, map, min, sym, ap, subst, slice_index_or, arith}
use Rattle.std.specs.List.{range_with_len}
use Rattle.std.specs.Arc.{arc_value}
use Rattle.std.proofs.Math.Path.{transport}
use Rattle.road_plan.specs.Plan.{Plan}
use Rattle.road_ends.specs.Input.{StepInput, input_next, input_speeds}
use Rattle.road_ends.specs.EntriesBetween.{input_between}
use Rattle.road_detector.specs.Passes.{no_totals, passes_at, plus}
use Rattle.road_detector.specs.declared.counts.Totals.{Totals}
use Rattle.road_columns.specs.UnderWay.{run_after_step}
use Rattle.road_columns.specs.Private.Cars.{road_of}
use Rattle.road_columns.specs.Private.Counts.{totals_in}
use Rattle.road_columns.specs.Private.Interval.{HaveRoom}
use Rattle.road_columns.specs.Private.Running.{AreRunning}
use Rattle.road_columns.proofs.IntervalStarts.{few_cars}
use Rattle.road_columns.proofs.LongerColumns.{on_err, road_longer, running_longer}
use Rattle.road_columns.proofs.under_way.UnderWay.step.Goals as goal

-- the totals after a step of an input
abbrev totals_after : StepInput → List Totals → List Totals
totals_after input totals = map (λ d. plus (slice_index_or totals d no_totals) (passes_at input (input_speeds input) d)) (range_with_len 0 (length totals))

pub make_room-requires-clause-few : goal.make_room-requires-clause-few
make_room-requires-clause-few c =
    let few = few_cars (arc_value c.self.inside.plan) c.self.inside.cars.head c.self.inside.cars.tail c.self.inside.cars.cells.items c.self.invariant.running.standing.cars_are in
    let most = c.self.invariant.within.short_enough in omega arith

pub run_step-requires-clause-running : goal.run_step-requires-clause-running
run_step-requires-clause-running c =
    let x = c.self.inside in
    transport (λ j. AreRunning (sym c.deref-2.ensures j) (sym c.deref-5.ensures.value j) x.step x.stretch.first x.stretch.end c.make_room.new.cars c.make_room.new.words x.counts)
    (running_longer (arc_value x.plan) x.kept.sites.items x.step x.stretch.first x.stretch.end x.cars c.make_room.new.cars x.words c.make_room.new.words x.counts c.make_room.ensures.makes c.self.invariant.running)

pub run_step-requires-clause-room : goal.run_step-requires-clause-room
run_step-requires-clause-room c =
    subst (λ n. HaveRoom n c.make_room.new.cars c.make_room.new.words)
    (ap length c.inlets-inlets.ensures.inlets ∙ ap (λ (p : Plan). length p.inlets) (c.deref.ensures ∙ sym c.deref-2.ensures))
    c.in_ok-make_room.ensures.room

pub invariant_of-self : goal.invariant_of-self
invariant_of-self c =
    let i = c.self.invariant in
    let x = c.self.inside in
    record {
      within = i.within;
      fits = i.fits;
      regions_are = i.regions_are;
      slowing_is = i.slowing_is;
      sites_are = i.sites_are;
      running = running_longer (arc_value x.plan) x.kept.sites.items x.step x.stretch.first x.stretch.end x.cars c.make_room.new.cars x.words c.make_room.new.words x.counts c.make_room.ensures.makes i.running;
    }

pub returns-in_err-make_room-clause-err : goal.returns-in_err-make_room-clause-err
returns-in_err-make_room-clause-err c =
    let x = c.self.inside in
    let inside : c.self.inside.cars.tail ≤ length c.self.inside.cars.cells.items = let within = c.self.invariant.running.standing.cars_are.inside in omega arith in
    on_err c.from_residual.result ((λ j. record {
      plan = arc_value x.plan;
      settings = arc_value x.settings;
      step = x.step;
      lo = x.stretch.first;
      hi = x.stretch.end;
      road = road_longer x.cars c.make_room.new.cars c.make_room.ensures.makes.longer inside j;
      totals = totals_in x.counts.passes.items x.counts.totals.items;
    })
    ∙ c.self.view_is)

pub returns-clause-run_after_step : goal.returns-clause-run_after_step
returns-clause-run_after_step c =
    let x = c.self.inside in
    let r = c.run_step in
    let inside : c.self.inside.cars.tail ≤ length c.self.inside.cars.cells.items = let within = c.self.invariant.running.standing.cars_are.inside in omega arith in
    let same : road_of c.make_room.new.cars ≡ road_of c.self.inside.cars = road_longer c.self.inside.cars c.make_room.new.cars c.make_room.ensures.makes.longer inside in
    let hi_is : min (c.self.inside.stretch.end + 9) c.deref-2.result.now.cells ≡ c.min-self-inside.result = let a = c.min-self-inside.ensures in let b = c.from.ensures in let d = c.length.ensures.cells in let e = ap (λ (p : Plan). p.cells) c.deref-6.ensures in let f = ap (λ (p : Plan). p.cells) c.deref-2.ensures in omega arith in
    (λ j. record {
      plan = arc_value x.plan;
      settings = arc_value x.settings;
      step = x.step + 1;
      lo = x.stretch.first;
      hi = (sym hi_is ∙ ap (λ (p : Plan). min (x.stretch.end + 9) p.cells) c.deref-2.ensures) j;
      road = (r.ensures.road ∙ (λ k. input_next (input_between x.stretch.first x.stretch.end (c.deref-2.ensures k) (c.deref-3.ensures k) x.step (same k)))) j;
      totals = (r.ensures.totals ∙ (λ k. totals_after (input_between x.stretch.first x.stretch.end (c.deref-2.ensures k) (c.deref-3.ensures k) x.step (same k)) (totals_in x.counts.passes.items x.counts.totals.items))) j;
    })
    ∙ ap run_after_step c.self.view_is
