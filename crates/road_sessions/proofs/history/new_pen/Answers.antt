-- In any logbook one more pen can be made.
use Rattle.std.proofs.Common.{◌∙◌, ap, sym}
use Rattle.road_sessions.proofs.AppendedEntries.{may_make_pen}
use Rattle.road_sessions.proofs.history.new_pen.Goals as goal

pub compare_exchange-requires : goal.compare_exchange-requires
compare_exchange-requires c =
    let word = c.requires in
    let later = c.again-later.ensures in
    let book = ap (λ s. s.book) later ∙ sym (ap (λ w. w.book) word) in
    let offer = c.plain-offer.ensures in
    let pen = c.no_pen-pen.ensures in (
      ap (λ w. w.tracked) word,
      book,
      pen.0 ∙ book,
      offer.0,
      rw (ap (λ w. w.key) word, pen.1, offer.3) (may_make_pen c.again-later.result.log c.plain-offer.result.ask),
    )
