-- The words of the car are drawn and kept, or nothing is kept.
use Rattle.std.proofs.Common.{◌∙◌, ◌+◌, ◌*◌, ◌/◌, ap, arith, refl}
use Rattle.road_columns.specs.Private.Drawn.{drawn_word}
use Rattle.road_columns.specs.Private.Interval.{entered_of_words}
use Rattle.road_columns.specs.Private.Lanes.{place_of}
use Rattle.road_columns.proofs.EnteredWords.{order_last}
use Rattle.road_columns.proofs.interval.IntervalWords.keep.Goals as goal

pub returns-then-not-self-clause-keeps : goal.returns-then-not-self-clause-keeps
returns-then-not-self-clause-keeps c =
    let few = c.requires.can.entered.few in
    record {
      rest = record { source = refl; drawn = refl; worded = refl; inlets = refl; rows_each = refl; beside_each = refl };
      bound = omega arith;
      entered = record {
        few = omega arith;
        rising = c.requires.can.entered.rising;
        in_order = order_last (entered_of_words c.args.self.now) c.args.tail c.requires.can.entered.in_order;
      };
    }

pub returns-clause-words : goal.returns-clause-words
returns-clause-words c is kind is_kind head cells cells' numbers cell from falling put past under have =
    c.keep_batch.ensures.words kind (64 * (c.args.step / 64)) head cells cells' numbers c.args.number cell from falling put past under
    (λ j few. c.batch-words.ensures j few ∙ ap (λ m. drawn_word c.args.self.now.source m (64 * (c.args.step / 64) + place_of j) / 65536) c.from.ensures
    ∙ ap (λ n. n / 65536) (is_kind c.args.number (64 * (c.args.step / 64) + place_of j)))
    have
