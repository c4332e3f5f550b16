-- The words of the interval are there, or they are drawn.
use Rattle.std.proofs.Common.{◌≡◌, ◌∙◌, ◌+◌, ◌*◌, ◌/◌, ◌%◌, ◌≤◌, length, sym, ap, arith}
use Rattle.road_ends.specs.Entries.{inlet_stream}
use Rattle.road_columns.specs.Private.EnteredList.{high16_in}
use Rattle.road_columns.proofs.Refilled.{refilled}
use Rattle.road_columns.proofs.starting.make_ready.Goals as goal

pub draw_where-requires-clause-falling : goal.draw_where-requires-clause-falling
draw_where-requires-clause-falling c =
    (c.shift_back.ensures.cars c.args.layout.now.plan.now (let most = c.requires.layout.within.short_enough in omega arith) c.requires.standing.cars_are).falling

pub returns-clause-ready : goal.returns-clause-ready
returns-clause-ready c =
    let p = c.args.layout.now.plan.now in
    let st = c.requires.standing in
    let short_columns = c.args.cars.now.short in
    let from = c.args.cars.now.from in
    let room = c.requires.room.room in
    let beside = c.requires.room.beside in
    let sb = c.shift_back.ensures in
    let head = c.shift_back.ensures.shifts.head in
    let tail = c.shift_back.ensures.shifts.tail in
    let cells_each = c.shift_back.ensures.shifts.cells_each in
    let short : c.args.layout.now.plan.now.cells ≤ 65525 = let most = c.requires.layout.within.short_enough in omega arith in
    let value = c.deref_mut.ensures.value in
    let is = refilled c.args.words.now.inlets c.deref_mut.result.now c.draw_inlets.new.batches c.deref_mut.ensures.value c.draw_inlets.ensures.long in
    let inlets_each : length c.draw_inlets.new.batches ≡ length c.deref_mut.result.now = c.draw_inlets.ensures.long in
    record {
      layout = c.requires.layout;
      standing = record {
        source_is = st.source_is;
        inlets_each = ap length is ∙ c.draw_inlets.ensures.long ∙ ap length value ∙ st.inlets_each;
        cars_are = sb.cars p short st.cars_are;
        places_are = sb.places c.args.layout.now.sites.now st.places_are;
      };
      words_are = record {
        rows_each = c.draw_where.ensures.long ∙ c.requires.room.rows_each ∙ ap (λ n. 64 * (n + 8)) (sym sb.shifts.cells_each);
        entered = record {
          few = omega arith;
          rising = record { rising = λ i j less below. absurd (omega arith) };
          in_order = record { low = λ j d below. absurd (omega arith); few = λ place below of_rows. omega arith };
        };
        of_cars = λ on. c.draw_where.ensures.words on p.words st.source_is (c.args.step % 64);
        inlet_words = λ i r below early.
            ap (λ xs. high16_in xs i r) is
            ∙ c.draw_inlets.ensures.words i r (let long = ap length is in omega arith) early
            ∙ ap (λ n. n / 65536) (st.source_is (inlet_stream i) (64 * (c.args.step / 64) + r));
      };
      room = omega arith;
      room_beside = omega arith;
      free = c.requires.layout.slowing_is;
    }
