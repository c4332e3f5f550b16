-- One more region, between the cars before it and those of the regions behind.
use Rattle.std.proofs.Common.{◌≡◌, ◌∙◌, ◌<◌, ◌≤◌, ◌+◌, ◌-◌, ◌/◌, ℕ, List, length, slice_index, sym, ap, subst, arith, inl, inr}
use Rattle.std.proofs.lemmas.Bool.{cases_lt, cases_eq}
use Rattle.road_rules.specs.Speeds.{comes_about, slowed_speed}
use Rattle.road_columns.specs.Private.Motion.{chance_at}
use Rattle.road_columns.specs.Private.Pieces.{IsHigh16At}
use Rattle.road_columns.specs.Private.Regions.{IsOfRegion, region_at, wish_at}
use Rattle.road_columns.specs.declared.regions.Region.{Region}
use Rattle.road_columns.proofs.PieceWishes.{falls, wish_same}
use Rattle.road_columns.proofs.regions.advance_regions.Goals as goal

-- upper 16 bits that are right for all cars that have entered between others are right for the first of these, if the
-- others are at later places
high16_among : (row : List ℕ) (index last n : ℕ) (beside : List ℕ) (batches : List (List ℕ)) (q h : ℕ) → last ≤ n → ((i : ℕ) → last ≤ i → i < n → q < slice_index beside i)
    → IsHigh16At row index n beside batches q h → IsHigh16At row index last beside batches q h
high16_among row index last n beside batches q h few later is = record {
  in_row = λ m bound before after. is.in_row m (omega arith) before (λ i from below. elim (cases_lt i last) as (λ _. q < slice_index beside i) [
    | inl less ↦ after i from less
    | inr more ↦ later i more below
  ]);
  own = λ i below same. is.own i (omega arith) same;
}

-- a car's new speed, by its region
abbrev SpeedIn : List Region → List ℕ → List ℕ → List ℕ → List ℕ → ℕ → ℕ → List ℕ → List (List ℕ) → ℕ → ℕ → ℕ → Type 0
SpeedIn regions cells speeds new row index n beside batches r q word =
    (0 < wish_at (region_at regions r).chances.limit (region_at regions r).block cells speeds q → IsHigh16At row index n beside batches q (word / 65536))
    → slice_index new q ≡ slowed_speed (wish_at (region_at regions r).chances.limit (region_at regions r).block cells speeds q)
    (comes_about word (chance_at (slice_index speeds q) (region_at regions r).chances.standing (region_at regions r).chances.moving))

of_place : (n place from head q : ℕ) (ends : List ℕ) → length ends ≡ n → place < n → q < slice_index ends place → from ≤ q → (place + 1 < length ends → from ≡ slice_index ends (place + 1)) → IsOfRegion n ends place q
of_place n place from head q ends long inside below above next = record { within = inside; before_end = below; from = λ some. let is = next (omega arith) in omega arith }

pub advance_region-requires-clause-falling : goal.advance_region-requires-clause-falling
advance_region-requires-clause-falling c q above below =
    let inv = c.loop-place.invariant in
    let low = c.region_start-from.ensures.low in
    let high = inv.high in
    let fall = falls c.args.piece.from c.args.piece.to q c.args.cells.now c.requires.low c.requires.falling c.requires.front (omega arith) (omega arith) in
    let here = inv.cells_rest q (inl below) in
    let ahead = inv.cells_rest (q - 1) (inl (omega arith)) in omega arith

pub advance_region-requires-clause-block : goal.advance_region-requires-clause-block
advance_region-requires-clause-block c q above below =
    let inv = c.loop-place.invariant in
    let inside = c.loop-place-test.true in
    let long = c.requires.ends.as_many in
    let low = c.region_start-from.ensures.low in
    let to = inv.to_is (omega arith) in
    let block = c.requires.blocks c.loop-place.place q (of_place (length c.args.regions.now) c.loop-place.place c.region_start-from.result c.args.piece.from q c.args.ends.now long (omega arith) (omega arith) above c.region_start-from.ensures.next) (omega arith) in
    let here = inv.cells_rest q (inl below) in omega arith

pub advance_region-requires-clause-words : goal.advance_region-requires-clause-words
advance_region-requires-clause-words c =
    let inv = c.loop-place.invariant in
    let last = inv.last in
    let high = inv.high in
    let row = c.requires.words.row in
    let beside = c.requires.words.beside in
    record {
      row = omega arith;
      beside = omega arith;
      rising = record { rising = λ i j less below. c.requires.words.rising.rising i j less (omega arith) };
      high = inv.before;
      places = λ i below. c.requires.words.places i (omega arith);
    }

pub advance_region-requires-clause-begins : goal.advance_region-requires-clause-begins
advance_region-requires-clause-begins c = record {
  before = c.first_from-first.ensures.before;
  after = c.first_from-first.ensures.after;
}

pub loop-place-preserved : goal.loop-place-preserved
loop-place-preserved c =
    let inv = c.loop-place.invariant in
    let place = c.loop-place.place in
    let from = c.region_start-from.result in
    let ran = c.advance_region.ensures in
    let first = c.first_from-first.ensures in
    let inside = c.loop-place-test.true in
    let long = c.requires.ends.as_many in
    let at = c.region_start-from.ensures in
    let low_from = at.low in
    let to = inv.to_is (omega arith) in
    let high_from = at.high in
    let high = inv.high in
    let last = inv.last in
    let bound = first.bound in
    record {
      last = omega arith;
      low = low_from;
      high = omega arith;
      to_is = λ some. at.next (omega arith);
      to_end = λ none. at.last (omega arith);
      as_many_cells = ran.moves.cells_each ∙ inv.as_many_cells;
      as_many_speeds = ran.moves.speeds_each ∙ inv.as_many_speeds;
      before = first.before;
      after = λ i more less. elim (cases_lt i c.loop-place.last) as (λ _. c.region_start-from.result ≤ slice_index c.args.words.now.beside.now i) [
        | inl one ↦ first.after i more one
        | inr other ↦ let later = inv.after i other less in omega arith
      ];
      cells_rest = λ q away. elim away as (λ _. slice_index c.advance_region.new.cells q ≡ slice_index c.args.cells.now q) [
        | inl less ↦ ran.moves.other_cells q (inl less) ∙ inv.cells_rest q (inl (omega arith))
        | inr past ↦ ran.moves.other_cells q (inr (omega arith)) ∙ inv.cells_rest q (inr past)
      ];
      speeds_rest = λ q away. elim away as (λ _. slice_index c.advance_region.new.speeds q ≡ slice_index c.args.speeds.now q) [
        | inl less ↦ ran.moves.other_speeds q (inl less) ∙ inv.speeds_rest q (inl (omega arith))
        | inr past ↦ ran.moves.other_speeds q (inr (omega arith)) ∙ inv.speeds_rest q (inr past)
      ];
      cells_done = λ q above below. elim (cases_lt q c.loop-place.to) as (λ _. slice_index c.advance_region.new.cells q ≡ slice_index c.args.cells.now q + slice_index c.advance_region.new.speeds q) [
        | inl here ↦ let moved = ran.moves.moved q above here in let old = inv.cells_rest q (inl here) in omega arith
        | inr done ↦
            let a = ran.moves.other_cells q (inr done) in
            let b = ran.moves.other_speeds q (inr done) in
            let d = inv.cells_done q done below in omega arith
      ];
      done_from = λ r q less is low. elim (cases_eq r c.loop-place.place) as (λ _. c.region_start-from.result ≤ q) [
        | inl same ↦ from_place_on r q same is low
        | inr other ↦ let done = inv.done_from r q (omega arith) is low in omega arith
      ];
      speeds_done = λ r q less is low word. elim (cases_eq r c.loop-place.place) as (λ _. SpeedIn c.args.regions.now c.args.cells.now c.args.speeds.now c.advance_region.new.speeds c.args.words.now.row.now c.args.words.now.index c.args.piece.last c.args.words.now.beside.now c.args.words.now.batches.now r q word) [
        | inl same ↦
            let ends = ap (slice_index c.args.ends.now) same in
            let before = is.before_end in
            subst (λ k. SpeedIn c.args.regions.now c.args.cells.now c.args.speeds.now c.advance_region.new.speeds c.args.words.now.row.now c.args.words.now.index c.args.piece.last c.args.words.now.beside.now c.args.words.now.batches.now k q word) (sym same) (speed_here q (from_place_on r q same is low) (omega arith) word)
        | inr other ↦ λ right.
            let done = inv.done_from r q (omega arith) is low in
            ran.moves.other_speeds q (inr done) ∙ inv.speeds_done r q (omega arith) is low word right
      ];
    }
  where
    from_place_on : (r q : ℕ) → r ≡ c.loop-place.place → IsOfRegion (length c.args.regions.now) c.args.ends.now r q → c.args.piece.from ≤ q → c.region_start-from.result ≤ q
    from_place_on r q same is low =
        let long = c.requires.ends.as_many in
        let at = c.region_start-from.ensures in
        elim (cases_lt (c.loop-place.place + 1) (length c.args.ends.now)) as (λ _. c.region_start-from.result ≤ q) [
          | inl some ↦
              let next = at.next some in
              let from = is.from (omega arith) in
              let one : r + 1 ≡ c.loop-place.place + 1 = omega arith in
              let ends = ap (slice_index c.args.ends.now) one in omega arith
          | inr none ↦ let last = at.last none in omega arith
        ]

    speed_here : (q : ℕ) → c.region_start-from.result ≤ q → q < c.loop-place.to → (word : ℕ) → SpeedIn c.args.regions.now c.args.cells.now c.args.speeds.now c.advance_region.new.speeds c.args.words.now.row.now c.args.words.now.index c.args.piece.last c.args.words.now.beside.now c.args.words.now.batches.now c.loop-place.place q word
    speed_here q above below word right =
        let inv = c.loop-place.invariant in
        let region : Region = region_at c.args.regions.now c.loop-place.place in
        let wish = wish_same region.chances.limit region.block q c.loop-place.cells c.args.cells.now c.loop-place.speeds c.args.speeds.now
        (inv.cells_rest (q - 1) (inl (omega arith))) (inv.cells_rest q (inl below)) (inv.speeds_rest q (inl below)) in
        let speed = inv.speeds_rest q (inl below) in
        c.advance_region.ensures.speeds q above below word (λ moves. high16_among c.args.words.now.row.now c.args.words.now.index c.loop-place.last c.args.piece.last c.args.words.now.beside.now c.args.words.now.batches.now q (word / 65536) inv.last
        (λ i more less. let later = inv.after i more less in omega arith) (right (subst (λ n. 0 < n) wish moves)))
        ∙ (λ j. slowed_speed (wish j) (comes_about word (chance_at (speed j) region.chances.standing region.chances.moving)))

pub returns-clause-speeds : goal.returns-clause-speeds
returns-clause-speeds c r q is low word right =
    let done = c.loop-place-test.false in
    let inside = is.within in
    c.loop-place.invariant.speeds_done r q (omega arith) is low word right
