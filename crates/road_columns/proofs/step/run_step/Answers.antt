-- Words are drawn, the cars enter and move, and the step ends.
use Rattle.std.proofs.Common.{◌∙◌, ◌+◌, subst, arith}
use Rattle.road_ends.specs.Input.{input_speeds}
use Rattle.road_ends.specs.EntriesBetween.{entries_between, input_between, with_entry}
use Rattle.road_ends.proofs.EntriesBetween.{between-ends}
use Rattle.road_detector.specs.Passes.{passes_at}
use Rattle.road_columns.specs.Private.Cars.{road_of}
use Rattle.road_columns.specs.Private.Counts.{AreCounts, totals_in}
use Rattle.road_columns.proofs.IntervalStarts.{words_on}
use Rattle.road_columns.proofs.RunSteps.{nobody_else, ready_cars, road_run, stand_run}
use Rattle.road_columns.proofs.TotalsKept.{totals_more}
use Rattle.road_columns.proofs.step.run_step.Goals as goal

pub returns-clause-running : goal.returns-clause-running
returns-clause-running c =
    let p = c.args.layout.now.plan.now in
    let s = c.args.layout.now.settings.now in
    let lo = c.args.stretch.first in
    let hi = c.args.stretch.end in
    let done = c.move_cars.new.cars in
    let ready = c.move_cars.ensures.ready in
    let st = c.move_cars.ensures.ready.standing in
    let w = c.move_cars.ensures.ready.words_are in
    record {
      up_to = omega arith;
      on_road = omega arith;
      standing = record {
        source_is = st.source_is;
        inlets_each = st.inlets_each;
        cars_are = st.cars_are;
        places_are = st.places_are;
      };
      stand = stand_run p s c.args.step lo hi c.args.cars.now c.make_ready.new.cars done c.requires.running.standing.cars_are c.requires.running.stand c.make_ready.ensures.road st.cars_are
          (λ a near cars. c.move_cars.ensures.road (entries_between lo hi p s c.args.step a) (between-ends (with_entry p s c.args.step a) lo hi p.cells c.requires.running.on_road) (c.enter.ensures.entries a near cars))
          c.requires.running.on_road;
      counts_are = subst (λ n. AreCounts n (c.args.step + 1) c.end_step-words.new.self.passes.items c.end_step-words.new.self.totals.items)
          (c.move_cars.ensures.passes_each ∙ c.requires.running.counts_are.passes_each) c.end_step-words.ensures.counts;
      words_are = λ goes. words_on p c.args.step done _ (c.end_step-words.ensures.goes_on goes) (record {
        rows_each = w.rows_each;
        entered = record { few = w.entered.few; rising = w.entered.rising; in_order = w.entered.in_order };
        of_cars = w.of_cars;
        inlet_words = w.inlet_words;
      });
    }

pub returns-clause-road : goal.returns-clause-road
returns-clause-road c =
    let p = c.args.layout.now.plan.now in
    let s = c.args.layout.now.settings.now in
    let lo = c.args.stretch.first in
    let hi = c.args.stretch.end in
    road_run p s c.args.step lo hi c.args.cars.now c.make_ready.new.cars c.move_cars.new.cars c.requires.running.standing.cars_are c.requires.running.stand c.make_ready.ensures.road c.move_cars.ensures.ready.standing.cars_are
    (λ a near cars. c.move_cars.ensures.road (entries_between lo hi p s c.args.step a) (between-ends (with_entry p s c.args.step a) lo hi p.cells c.requires.running.on_road) (c.enter.ensures.entries a near cars))

pub returns-clause-totals : goal.returns-clause-totals
returns-clause-totals c =
    let p = c.args.layout.now.plan.now in
    let s = c.args.layout.now.settings.now in
    let lo = c.args.stretch.first in
    let hi = c.args.stretch.end in
    let road = road_of c.args.cars.now in
    let before = c.requires.running.standing.cars_are in
    let passes_each = c.requires.running.counts_are.passes_each in
    let totals_each = c.requires.running.counts_are.totals_each in
    c.end_step-words.ensures.totals
    ∙ (λ j. totals_in c.move_cars.new.counts.passes.items (c.move_cars.ensures.totals j).items)
    ∙ totals_more c.args.counts.now.passes.items c.move_cars.new.counts.passes.items c.args.counts.now.totals.items
    (λ d. passes_at (input_between lo hi p s c.args.step road) (input_speeds (input_between lo hi p s c.args.step road)) d) (omega arith)
    (c.move_cars.ensures.passes (entries_between lo hi p s c.args.step road) (between-ends (with_entry p s c.args.step road) lo hi p.cells c.requires.running.on_road)
    (c.enter.ensures.entries road (nobody_else p s c.args.step lo hi c.args.cars.now c.make_ready.new.cars c.make_ready.new.cars before c.requires.running.stand c.make_ready.ensures.road)
    (ready_cars p s c.args.step lo hi c.args.cars.now c.make_ready.new.cars c.make_ready.new.cars before c.requires.running.stand c.make_ready.ensures.road)))
