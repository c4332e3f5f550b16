-- One more answer gives the speeds up to the end of its piece.
use Rattle.std.proofs.Common.{rules, arith, ◌≡◌, ◌<◌, ◌+◌, length, slice_index_or, take, vec_len, sym, ap, subst, ◌∙◌, IfOk, IfSome, IsSome, ◌++◌, ◌∷◌, []}
use Rattle.std.specs.declared.option.Option.TheVariants.{Some}
use Rattle.std.specs.Vec.Iter.{into_iter_items}
use Rattle.std.proofs.lemmas.List.{length-append}
use Rattle.road_cells.specs.Cars.{cars_of}
use Rattle.road_ends.specs.Input.{input_speeds}
use Rattle.road_workers.specs.Private.Pieces.{piece_start}
use Rattle.road_workers.specs.Private.Gathered.{IsAnswerOf}
use Rattle.road_workers.proofs.PiecesInOrder.{pieces_rise, whole_step}
use Rattle.road_workers.proofs.pool.gathering.put_together.Goals as goal

pub unwrap-requires : goal.unwrap-requires
unwrap-requires c =
    let place = c.in-Some.place in
    let steps = c.in-Some.ensures.steps in
    let some : 0 < length (into_iter_items c.loop-place.place-iterator) = grind rules in
    subst IsSome (ap (λ xs. slice_index_or xs 0 place) steps.0) (c.loop-place.invariant.there 0 place some)

pub loop-place-preserved : goal.loop-place-preserved
loop-place-preserved c =
    let was = c.loop-place.invariant in
    let input = c.args.input.now in
    let all = input_speeds input in
    let n = vec_len c.args.places in
    let m = length (cars_of input.road) in
    let done = length c.loop-place.yielded in
    let place = c.in-Some.place in
    let answer = c.unwrap.result in
    let steps = c.in-Some.ensures.steps in
    let some : 0 < length (into_iter_items c.loop-place.place-iterator) = grind rules in
    let head : slice_index_or (into_iter_items c.loop-place.place-iterator) 0 place ≡ Some answer = ap (λ xs. slice_index_or xs 0 place) steps.0 ∙ c.unwrap.ensures in
    let at : done + 0 ≡ done = omega arith in
    let its : IsAnswerOf input n done answer = subst (λ w. IsAnswerOf input n w answer) at (subst (λ p. IfSome p (IsAnswerOf input n (done + 0))) head (was.rest 0 place some)) in
    let next : length (c.loop-place.yielded ++ place ∷ []) ≡ done + 1 = length-append c.loop-place.yielded (place ∷ []) in
    record {
      count = grind rules;
      there = λ k d below.
          let len = steps.1 in
          let same : slice_index_or (into_iter_items c.loop-place.place-iterator) (k + 1) d ≡ slice_index_or (into_iter_items c.next.new.self) k d = let is = steps.0 in grind rules in
          subst IsSome same (was.there (k + 1) d (omega arith));
      rest = λ k d below.
          let len = steps.1 in
          let same : slice_index_or (into_iter_items c.loop-place.place-iterator) (k + 1) d ≡ slice_index_or (into_iter_items c.next.new.self) k d = let is = steps.0 in grind rules in
          let on : done + (k + 1) ≡ length (c.loop-place.yielded ++ place ∷ []) + k = omega arith in
          subst (λ w. IfSome (slice_index_or (into_iter_items c.next.new.self) k d) (IsAnswerOf input n w)) on
          (subst (λ p. IfSome p (IsAnswerOf input n (done + (k + 1)))) same (was.rest (k + 1) d (omega arith)));
      front = subst (λ k. IfOk c.append-whole.result (λ new. new.items ≡ take (piece_start n m k) all)) (sym next)
          (c.append-whole.ensures all (piece_start n m done) (piece_start n m (done + 1)) (pieces_rise n m done) was.front its);
    }

pub returns : goal.returns
returns c =
    let input = c.args.input.now in
    let all = input_speeds input in
    let n = vec_len c.args.places in
    let m = length (cars_of input.road) in
    let none = c.in-None.ensures.steps in
    let count = c.loop-place.invariant.count in
    let done : length c.loop-place.yielded ≡ n = omega arith in
    subst (λ speeds. IfOk c.loop-place.whole (λ new. new.items ≡ speeds)) (ap (λ k. take (piece_start n m k) all) done ∙ whole_step input n c.requires.some) c.loop-place.invariant.front
