-- Each turn moves one car that has entered between others, and the platoon behind it.
use Rattle.std.proofs.Common.{◌≡◌, ◌∙◌, ◌<◌, ◌≤◌, ◌+◌, ◌-◌, ℕ, List, slice_index, sym, ap, subst, arith, inl, inr}
use Rattle.std.specs.Prelude.{slice_index_or, []}
use Rattle.std.proofs.lemmas.Bool.{cases_lt, cases_eq}
use Rattle.road_rules.specs.Speeds.{comes_about, slowed_speed}
use Rattle.road_columns.specs.Private.Motion.{chance_at}
use Rattle.road_columns.specs.Private.Pieces.{ahead_at, wanted_at}
use Rattle.road_columns.proofs.PieceWishes.{at_first, at_later, wish_alone, wish_behind, wish_first}
use Rattle.road_columns.proofs.pieces.advance_between.Goals as goal
use Rattle.road_columns.proofs.pieces.advance_between.Goals.{then-place-piece, else-place-piece}

falls_piece : (from front place end to : ℕ) (cells old : List ℕ) → ((q : ℕ) → from ≤ q → q < to → slice_index old q < ahead_at from front old q)
    → ((q : ℕ) → q < end → slice_index cells q ≡ slice_index old q) → from ≤ place → end ≤ to → (q : ℕ) → place + 1 ≤ q → q < end
    → slice_index cells q < ahead_at (place + 1) (slice_index cells place) cells q
falls_piece from front place end to cells old falling same low high q above below =
    let fall = falling q (omega arith) (omega arith) in
    let later = at_later from front q (slice_index old (q - 1)) (omega arith) in
    let here = same q below in
    let prior = same (q - 1) (omega arith) in
    elim (cases_eq q (place + 1)) as (λ _. slice_index cells q < ahead_at (place + 1) (slice_index cells place) cells q) [
      | inl first ↦
          let is = at_first (place + 1) (slice_index cells place) q (slice_index cells (q - 1)) first in
          let back : q - 1 ≡ place = omega arith in
          let there = ap (slice_index cells) back in omega arith
      | inr other ↦ let is = at_later (place + 1) (slice_index cells place) q (slice_index cells (q - 1)) other in omega arith
    ]

pub advance_in-requires-clause-falling : goal.advance_in-requires-clause-falling
advance_in-requires-clause-falling c q above below =
    let inv = c.loop-car.invariant in
    let some = c.loop-car-test.true in
    let last = inv.last in
    let low = c.requires.begins.after (c.loop-car.car - 1) (omega arith) (omega arith) in
    falls_piece c.args.piece.from c.args.front (slice_index c.args.words.now.beside.now (c.loop-car.car - 1)) c.loop-car.end c.args.piece.to c.loop-car.cells c.args.cells.now c.requires.falling
    (λ k less. inv.cells_rest k (inl less)) low inv.to q above below

pub advance_in-requires-in-loop-car-clause-falling : goal.advance_in-requires-in-loop-car-clause-falling
advance_in-requires-in-loop-car-clause-falling c q above below =
    let inv = c.loop-car.invariant in
    let some = c.loop-car-test.true in
    let last = inv.last in
    let to = inv.to in
    let place = slice_index c.args.words.now.beside.now (c.loop-car.car - 1) in
    let low = c.requires.begins.after (c.loop-car.car - 1) (omega arith) (omega arith) in
    let high = inv.before (c.loop-car.car - 1) (omega arith) (omega arith) in
    let here = c.advance_in.ensures.moves.other_cells q (inl below) ∙ inv.cells_rest q (inl (omega arith)) in
    let prior = c.advance_in.ensures.moves.other_cells (q - 1) (inl (omega arith)) ∙ inv.cells_rest (q - 1) (inl (omega arith)) in
    let fall = c.requires.falling q (omega arith) (omega arith) in
    let next = at_first place c.if-place-piece.next q (slice_index c.advance_in.new.cells (q - 1)) (omega arith) in
    elim c.if-place-piece.branch [
      | then-place-piece w ↦
          let more = w.if-place-piece.true in
          let later = at_later c.args.piece.from c.args.front q (slice_index c.args.cells.now (q - 1)) (omega arith) in
          let back : slice_index c.args.words.now.beside.now (c.loop-car.car - 1) - 1 ≡ q - 1 = omega arith in
          let is = w.next-is ∙ ap (slice_index c.advance_in.new.cells) back in omega arith
      | else-place-piece w ↦
          let less = w.if-place-piece.false in
          let first = at_first c.args.piece.from c.args.front q (slice_index c.args.cells.now (q - 1)) (omega arith) in
          let is = w.next-is in omega arith
    ]

pub loop-car-preserved : goal.loop-car-preserved
loop-car-preserved c =
    let inv = c.loop-car.invariant in
    let some = c.loop-car-test.true in
    let last = inv.last in
    let to = inv.to in
    let first = c.args.piece.cars in
    let place = slice_index c.args.words.now.beside.now (c.loop-car.car - 1) in
    let low = c.requires.begins.after (c.loop-car.car - 1) (omega arith) (omega arith) in
    let high = inv.before (c.loop-car.car - 1) (omega arith) (omega arith) in
    let one = c.advance_in.ensures in
    let two = c.advance_in-in-loop-car.ensures in
    record {
      first = omega arith;
      last = omega arith;
      from = low;
      to = omega arith;
      as_many_cells = two.moves.cells_each ∙ one.moves.cells_each ∙ inv.as_many_cells;
      as_many_speeds = two.moves.speeds_each ∙ one.moves.speeds_each ∙ inv.as_many_speeds;
      before = λ i from less. c.requires.words.rising.rising i (c.loop-car.car - 1) less (omega arith);
      after = λ i from less. elim (cases_eq i (c.loop-car.car - 1)) as (λ _. slice_index c.args.words.now.beside.now (c.loop-car.car - 1) ≤ slice_index c.args.words.now.beside.now i) [
        | inl same ↦ let here = ap (slice_index c.args.words.now.beside.now) same in omega arith
        | inr other ↦ let later = inv.after i (omega arith) less in omega arith
      ];
      cells_rest = λ q away. elim away as (λ _. slice_index c.advance_in-in-loop-car.new.cells q ≡ slice_index c.args.cells.now q) [
        | inl less ↦ two.moves.other_cells q (inl less) ∙ one.moves.other_cells q (inl (omega arith)) ∙ inv.cells_rest q (inl (omega arith))
        | inr past ↦ two.moves.other_cells q (inr (omega arith)) ∙ one.moves.other_cells q (inr (omega arith)) ∙ inv.cells_rest q (inr past)
      ];
      speeds_rest = λ q away. elim away as (λ _. slice_index c.advance_in-in-loop-car.new.speeds q ≡ slice_index c.args.speeds.now q) [
        | inl less ↦ two.moves.other_speeds q (inl less) ∙ one.moves.other_speeds q (inl (omega arith)) ∙ inv.speeds_rest q (inl (omega arith))
        | inr past ↦ two.moves.other_speeds q (inr (omega arith)) ∙ one.moves.other_speeds q (inr (omega arith)) ∙ inv.speeds_rest q (inr past)
      ];
      cells_done = λ q from below. elim (cases_lt place q) as (λ _. slice_index c.advance_in-in-loop-car.new.cells q ≡ slice_index c.args.cells.now q + slice_index c.advance_in-in-loop-car.new.speeds q) [
        | inr here ↦
            let a = two.moves.moved q from (omega arith) in
            let b = one.moves.other_cells q (inl (omega arith)) in
            let d = inv.cells_rest q (inl (omega arith)) in omega arith
        | inl after ↦
            let a = two.moves.other_cells q (inr (omega arith)) in
            let b = two.moves.other_speeds q (inr (omega arith)) in
            elim (cases_lt q c.loop-car.end) as (λ _. slice_index c.advance_in-in-loop-car.new.cells q ≡ slice_index c.args.cells.now q + slice_index c.advance_in-in-loop-car.new.speeds q) [
              | inl inside ↦
                  let d = one.moves.moved q (omega arith) inside in
                  let e = inv.cells_rest q (inl inside) in omega arith
              | inr done ↦
                  let d = one.moves.other_cells q (inr done) in
                  let e = one.moves.other_speeds q (inr done) in
                  let f = inv.cells_done q done below in omega arith
            ]
      ];
      speeds_done = λ q from below word right. elim (cases_lt place q) as (λ _. slice_index c.advance_in-in-loop-car.new.speeds q
          ≡ slowed_speed (wanted_at c.args.piece.from c.args.front c.args.chances.limit c.args.cells.now c.args.speeds.now q) (comes_about word (chance_at (slice_index c.args.speeds.now q) c.args.chances.standing c.args.chances.moving))) [
            | inr here ↦
                let same : q ≡ place = omega arith in
                let wish = wish_alone c.args.piece.from c.args.front c.args.chances.limit (place + 1) c.advance_in.new.cells c.args.cells.now c.advance_in.new.speeds c.args.speeds.now
                (λ k less. one.moves.other_cells k (inl less) ∙ inv.cells_rest k (inl (omega arith))) (λ k less. one.moves.other_speeds k (inl less) ∙ inv.speeds_rest k (inl (omega arith)))
                place q c.if-place-piece.next same (omega arith) (next_is q same) in
                let speed = one.moves.other_speeds q (inl (omega arith)) ∙ inv.speeds_rest q (inl (omega arith)) in
                let at : c.args.words.now.index + (q - place) ≡ c.args.words.now.index = omega arith in
                two.speeds q from (omega arith) word (λ moves. ap (slice_index (slice_index_or c.args.words.now.batches.now (c.loop-car.car - 1) [])) at ∙ (right (subst (λ n. 0 < n) wish moves)).own (c.loop-car.car - 1) (omega arith) (sym same))
                ∙ (λ i. slowed_speed (wish i) (comes_about word (chance_at (speed i) c.args.chances.standing c.args.chances.moving)))
            | inl after ↦
                let kept = two.moves.other_speeds q (inr (omega arith)) in
                elim (cases_lt q c.loop-car.end) as (λ _. slice_index c.advance_in-in-loop-car.new.speeds q
                ≡ slowed_speed (wanted_at c.args.piece.from c.args.front c.args.chances.limit c.args.cells.now c.args.speeds.now q) (comes_about word (chance_at (slice_index c.args.speeds.now q) c.args.chances.standing c.args.chances.moving))) [
                  | inl inside ↦
                      let wish = wish_behind c.args.piece.from c.args.front c.args.chances.limit c.loop-car.end c.loop-car.cells c.args.cells.now c.loop-car.speeds c.args.speeds.now
                      (λ k less. inv.cells_rest k (inl less)) (λ k less. inv.speeds_rest k (inl less)) place q low after inside in
                      let speed = inv.speeds_rest q (inl inside) in
                      let early = c.requires.words.places (c.loop-car.car - 1) (omega arith) in
                      let at : place + 1 - c.loop-car.car + (q - (place + 1)) ≡ q - c.loop-car.car = omega arith in
                      kept ∙ one.speeds q (omega arith) inside word (λ moves. ap (slice_index c.args.words.now.row.now) at ∙ (right (subst (λ n. 0 < n) wish moves)).in_row c.loop-car.car last
                      (λ i less. elim (cases_eq i (c.loop-car.car - 1)) as (λ _. slice_index c.args.words.now.beside.now i < q) [
                        | inl same ↦ let is = ap (slice_index c.args.words.now.beside.now) same in omega arith
                        | inr other ↦ let rises = c.requires.words.rising.rising i (c.loop-car.car - 1) (omega arith) (omega arith) in omega arith
                      ])
                      (λ i from less. let later = inv.after i from less in omega arith))
                      ∙ (λ i. slowed_speed (wish i) (comes_about word (chance_at (speed i) c.args.chances.standing c.args.chances.moving)))
                  | inr done ↦ kept ∙ one.moves.other_speeds q (inr done) ∙ inv.speeds_done q done below word right
                ]
          ];
    }
  where
    next_is : (q : ℕ) → q ≡ slice_index c.args.words.now.beside.now (c.loop-car.car - 1) → c.if-place-piece.next ≡ ahead_at c.args.piece.from c.args.front c.args.cells.now q
    next_is q same =
        let inv = c.loop-car.invariant in
        let some = c.loop-car-test.true in
        let last = inv.last in
        let high = inv.before (c.loop-car.car - 1) (omega arith) (omega arith) in
        let low = c.requires.begins.after (c.loop-car.car - 1) (omega arith) (omega arith) in
        elim c.if-place-piece.branch [
          | then-place-piece w ↦
              let more = w.if-place-piece.true in
              let back : slice_index c.args.words.now.beside.now (c.loop-car.car - 1) - 1 ≡ q - 1 = omega arith in
              w.next-is ∙ ap (slice_index c.advance_in.new.cells) back ∙ c.advance_in.ensures.moves.other_cells (q - 1) (inl (omega arith)) ∙ inv.cells_rest (q - 1) (inl (omega arith))
              ∙ sym (at_later c.args.piece.from c.args.front q (slice_index c.args.cells.now (q - 1)) (omega arith))
          | else-place-piece w ↦
              let less = w.if-place-piece.false in
              w.next-is ∙ sym (at_first c.args.piece.from c.args.front q (slice_index c.args.cells.now (q - 1)) (omega arith))
        ]

pub returns-clause-speeds : goal.returns-clause-speeds
returns-clause-speeds c q from below word right =
    let inv = c.loop-car.invariant in
    let none = c.loop-car-test.false in
    let few = inv.first in
    let to = inv.to in
    let cars = c.args.piece.cars in
    let earlier = c.requires.earlier in
    elim (cases_lt q c.loop-car.end) as (λ _. slice_index c.advance_in-2.new.speeds q
    ≡ slowed_speed (wanted_at c.args.piece.from c.args.front c.args.chances.limit c.args.cells.now c.args.speeds.now q) (comes_about word (chance_at (slice_index c.args.speeds.now q) c.args.chances.standing c.args.chances.moving))) [
      | inl inside ↦
          let wish = wish_first c.args.piece.from c.args.front c.args.chances.limit c.loop-car.end c.loop-car.cells c.args.cells.now c.loop-car.speeds c.args.speeds.now
          (λ k less. inv.cells_rest k (inl less)) (λ k less. inv.speeds_rest k (inl less)) q from inside in
          let speed = inv.speeds_rest q (inl inside) in
          let at : c.args.piece.from - c.args.piece.first + (q - c.args.piece.from) ≡ q - c.args.piece.first = omega arith in
          c.advance_in-2.ensures.speeds q from inside word (λ moves. ap (slice_index c.args.words.now.row.now) at ∙ (right (subst (λ n. 0 < n) wish moves)).in_row c.args.piece.first cars
          (λ i less. let before = c.requires.begins.before i less in omega arith)
          (λ i more less. let after = inv.after i (omega arith) less in omega arith))
          ∙ (λ i. slowed_speed (wish i) (comes_about word (chance_at (speed i) c.args.chances.standing c.args.chances.moving)))
      | inr done ↦ c.advance_in-2.ensures.moves.other_speeds q (inr done) ∙ inv.speeds_done q done below word right
    ]
