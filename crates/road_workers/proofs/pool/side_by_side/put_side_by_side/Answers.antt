-- With one more stretch, the results are those of the road up to its end.
use Rattle.std.proofs.Common.{rules, arith, ◌≡◌, ◌<◌, ◌+◌, length, slice_index_or, vec_len, ap, subst, ◌∙◌, IfOk, IfSome, IsSome, ◌++◌, ◌∷◌, []}
use Rattle.std.specs.Vec.Iter.{into_iter_items}
use Rattle.std.proofs.lemmas.List.{length-append}
use Rattle.road_cells.specs.Cars.{cars_of}
use Rattle.road_workers.specs.Private.Gathered.{IsRunAt}
use Rattle.road_workers.specs.Private.Stretches.{IsJoined, cut}
use Rattle.road_workers.proofs.Cuts.{cut-last}
use Rattle.road_workers.proofs.OneMore.{get_or_next}
use Rattle.road_workers.proofs.pool.side_by_side.put_side_by_side.Goals as goal

pub unwrap-requires : goal.unwrap-requires
unwrap-requires c =
    let answer = c.in-Some.answer in
    let steps = c.in-Some.ensures.steps in
    let some : 0 < length (into_iter_items c.loop-answer.answer-iterator) = grind rules in
    subst IsSome (ap (λ xs. slice_index_or xs 0 answer) steps.0) (c.loop-answer.invariant.there 0 answer some)

pub loop-answer-preserved : goal.loop-answer-preserved
loop-answer-preserved c =
    let was = c.loop-answer.invariant in
    let span = c.args.shares.span.now in
    let road = c.args.shares.road.now in
    let own = c.args.shares.own in
    let n = own + vec_len c.args.places in
    let done = length c.loop-answer.yielded in
    let answer = c.in-Some.answer in
    let steps = c.in-Some.ensures.steps in
    let next : length (c.loop-answer.yielded ++ answer ∷ []) ≡ done + 1 = length-append c.loop-answer.yielded (answer ∷ []) in
    let at : c.loop-answer.place + 1 ≡ own + length (c.loop-answer.yielded ++ answer ∷ []) = let is = was.place in omega (arith, is, next) in
    let cells : c.length-cells.result ≡ span.plan.cells = let is = c.length-cells.ensures.cells in let plan = c.plan.ensures.plan in let value = c.deref.ensures in grind rules in
    let end : c.stretch_at-stretch.result.end ≡ cut span.plan.cells (cars_of road) n (c.loop-answer.place + 1) = let is = c.stretch_at-stretch.ensures.end in let len = c.len.ensures in grind rules in
    record {
      count = grind rules;
      place = at;
      there = λ k d below.
          let len = steps.1 in
          let same : slice_index_or (into_iter_items c.loop-answer.answer-iterator) (k + 1) d ≡ slice_index_or (into_iter_items c.next.new.self) k d = get_or_next (into_iter_items c.loop-answer.answer-iterator) (into_iter_items c.next.new.self) answer k d steps.0 in
          subst IsSome same (was.there (k + 1) d (omega arith));
      rest = λ k d below.
          let len = steps.1 in
          let same : slice_index_or (into_iter_items c.loop-answer.answer-iterator) (k + 1) d ≡ slice_index_or (into_iter_items c.next.new.self) k d = get_or_next (into_iter_items c.loop-answer.answer-iterator) (into_iter_items c.next.new.self) answer k d steps.0 in
          let on : done + (k + 1) ≡ length (c.loop-answer.yielded ++ answer ∷ []) + k = omega arith in
          subst (λ w. IfSome (slice_index_or (into_iter_items c.next.new.self) k d) (IsRunAt span road n (own + w))) on
          (subst (λ p. IfSome p (IsRunAt span road n (own + (done + (k + 1))))) same (was.rest (k + 1) d (omega arith)));
      front = subst (λ end. IfOk c.put_behind-whole.result (IsJoined end span road)) (end ∙ ap (cut span.plan.cells (cars_of road) n) at) c.put_behind-whole.ensures;
    }

pub returns : goal.returns
returns c =
    let span = c.args.shares.span.now in
    let road = c.args.shares.road.now in
    let n = c.args.shares.own + vec_len c.args.places in
    let none = c.in-None.ensures.steps in
    let count = c.loop-answer.invariant.count in
    let all : c.args.shares.own + length c.loop-answer.yielded ≡ n = omega arith in
    let last = cut-last span.plan.cells road n (let some = c.requires.some in omega arith) in
    subst (λ end. IfOk c.loop-answer.whole (IsJoined end span road)) (ap (cut span.plan.cells (cars_of road) n) all ∙ last) c.loop-answer.invariant.front
