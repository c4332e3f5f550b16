-- The words of a car that enters are kept.
use Rattle.std.proofs.Common.{◌≡◌, ◌∙◌, ◌+◌, ◌-◌, ◌*◌, ◌/◌, [], length, slice_index, sym, ap, subst, arith, refl}
use Rattle.std.proofs.Math.Path.{transport}
use Rattle.road_columns.specs.Private.Entered.{AreInOrder, number_with}
use Rattle.road_columns.specs.Private.EnteredList.{ArePlacesRising, entered_in}
use Rattle.road_columns.specs.Private.Entering.{IsPutIn}
use Rattle.road_columns.specs.Private.Interval.{entered_of_words}
use Rattle.road_columns.specs.Private.LooseWords.{HaveLooseWords}
use Rattle.road_columns.specs.Private.Lanes.{index_of, place_of}
use Rattle.road_words.specs.Words.{word}
use Rattle.road_columns.proofs.EnteredWords.{order_last}
use Rattle.road_columns.proofs.LooseWords.{loose_last}
use Rattle.road_columns.proofs.Refilled.{refilled}
use Rattle.road_columns.proofs.RowColumns.{index_of-small, place_of-index_of}
use Rattle.road_columns.proofs.WordsEnter.{next_column, place_low, still_in_order, still_rising, words_beside}
use Rattle.road_columns.proofs.interval.IntervalWords.keep_batch.Goals as goal

pub returns-then-place-tail-clause-keeps : goal.returns-then-place-tail-clause-keeps
returns-then-place-tail-clause-keeps c =
    let is = refilled c.args.self.now.rows c.deref_mut.result.now c.append.new.rows c.deref_mut.ensures.value c.append.ensures.long in
    let few = c.requires.can.entered.few in
    record {
      rest = record {
        source = refl;
        drawn = refl;
        worded = refl;
        inlets = refl;
        rows_each = ap length is ∙ c.append.ensures.long ∙ ap length c.deref_mut.ensures.value;
        beside_each = refl;
      };
      bound = omega arith;
      entered = record {
        few = omega arith;
        rising = c.requires.can.entered.rising;
        in_order = order_last (entered_of_words c.args.self.now) c.args.tail c.requires.can.entered.in_order;
      };
    }

pub returns-then-place-tail-clause-words : goal.returns-then-place-tail-clause-words
returns-then-place-tail-clause-words c kind first head cells cells' number new cell from falling put past under drawn have =
    let words = c.args.self.now in
    let list = entered_of_words c.args.self.now in
    let is = refilled c.args.self.now.rows c.deref_mut.result.now c.append.new.rows c.deref_mut.ensures.value c.append.ensures.long in
    let same : c.args.place ≡ c.args.tail = c.if-place-tail.true in
    let column = next_column c.args.self.now.entered c.args.tail c.args.self.now.beside.items c.args.self.now.batches.items c.requires.can.entered.few c.requires.can.entered.in_order in
    let few = c.requires.can.entered.few in
    transport (λ j. HaveLooseWords kind first c.args.width c.args.step (sym is j) list head (c.args.tail + 1) cells' (number_with (sym same j) new number))
    (loose_last kind first c.args.width c.args.step c.deref_mut.result.now c.append.new.rows list head c.args.tail (c.args.tail - c.args.self.now.entered) cells cells' number new cell
    (omega arith) falling (subst (λ place. IsPutIn cells cells' place c.args.tail cell 0) same put) (λ i a b. past i a (omega arith)) column (let room = c.requires.can.within in omega arith)
    (λ r after few.
    let at : place_of (index_of r) ≡ r = place_of-index_of r few in
    ap (λ k. slice_index c.append.new.rows (k * c.args.width + (c.args.tail - c.args.self.now.entered))) (sym at)
    ∙ c.append.ensures.written (index_of r) (index_of-small r few) (omega arith)
    ∙ drawn (index_of r) (index_of-small r few) ∙ ap (λ i. word kind new (first + i) / 65536) at)
    c.append.ensures.kept c.requires.can.entered.in_order
    (subst (λ rows. HaveLooseWords kind first c.args.width c.args.step rows list head c.args.tail cells number) (sym c.deref_mut.ensures.value) have))

pub move_later-before-requires-clause-rising : goal.move_later-before-requires-clause-rising
move_later-before-requires-clause-rising c = subst (ArePlacesRising c.args.self.now.entered) (sym c.deref_mut-2.ensures.value) c.requires.can.entered.rising

pub move_later-before-requires-clause-room : goal.move_later-before-requires-clause-room
move_later-before-requires-clause-room c i below =
    let low = place_low c.args.self.now.entered c.args.tail c.args.self.now.beside.items c.args.self.now.batches.items c.requires.can.entered.in_order i below in
    let same = ap (λ xs. slice_index xs i) c.deref_mut-2.ensures.value in
    let tail = c.requires.can.within in
    let width = c.requires.can.short in omega arith

pub returns-clause-keeps : goal.returns-clause-keeps
returns-clause-keeps c =
    let words = c.args.self.now in
    let value = c.deref_mut-2.ensures.value in
    let moved = c.move_later-before.ensures in
    let other = c.if-place-tail.false in
    let order = c.requires.can.order in
    let few = c.requires.can.entered.few in
    let is = refilled c.args.self.now.beside c.deref_mut-2.result.now c.move_later-before.new.places c.deref_mut-2.ensures.value c.move_later-before.ensures.long in
    let put = subst (λ xs. IsPutIn xs c.insert.new.column.items c.move_later-before.result c.args.self.now.entered c.args.place 0) is (c.insert.ensures.put_in 0) in
    record {
      rest = record {
        source = refl;
        drawn = refl;
        worded = refl;
        inlets = refl;
        rows_each = refl;
        beside_each = c.insert.ensures.long ∙ ap length is ∙ c.move_later-before.ensures.long ∙ ap length c.deref_mut-2.ensures.value;
      };
      bound = omega arith;
      entered = record {
        few = omega arith;
        rising = still_rising words.entered c.move_later-before.result c.args.place c.args.tail c.deref_mut-2.result.now c.move_later-before.new.places c.insert.new.column.items c.args.words.now words.batches.items c.insert-2.new.column.items
            moved.bound moved.moved moved.before moved.after put (c.insert-2.ensures.put_in []) (subst (ArePlacesRising words.entered) (sym value) c.requires.can.entered.rising);
        in_order = still_in_order words.entered c.move_later-before.result c.args.place c.args.tail c.deref_mut-2.result.now c.move_later-before.new.places c.insert.new.column.items c.args.words.now words.batches.items c.insert-2.new.column.items
            moved.bound moved.moved moved.before moved.after put (c.insert-2.ensures.put_in []) (omega arith) (subst (λ xs. AreInOrder (entered_in words.entered xs words.batches.items) c.args.tail) (sym value) c.requires.can.entered.in_order);
      };
    }

pub returns-clause-words : goal.returns-clause-words
returns-clause-words c kind first head cells cells' number new cell from falling put past under drawn have =
    let words = c.args.self.now in
    let moved = c.move_later-before.ensures in
    let is = refilled c.args.self.now.beside c.deref_mut-2.result.now c.move_later-before.new.places c.deref_mut-2.ensures.value c.move_later-before.ensures.long in
    let put_place = subst (λ xs. IsPutIn xs c.insert.new.column.items c.move_later-before.result c.args.self.now.entered c.args.place 0) is (c.insert.ensures.put_in 0) in
    words_beside words.entered c.move_later-before.result c.args.place c.args.tail c.deref_mut-2.result.now c.move_later-before.new.places c.insert.new.column.items c.args.words.now words.batches.items c.insert-2.new.column.items
    moved.bound moved.moved moved.before moved.after put_place (c.insert-2.ensures.put_in [])
    kind first c.args.width c.args.step c.args.self.now.rows.items head cells cells' number new cell c.requires.can.order from falling put past under drawn
    (subst (λ xs. HaveLooseWords kind first c.args.width c.args.step c.args.self.now.rows.items (entered_in words.entered xs words.batches.items) head c.args.tail cells number) (sym c.deref_mut-2.ensures.value) have)
