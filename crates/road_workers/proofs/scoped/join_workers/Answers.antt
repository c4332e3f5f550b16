-- One more worker gives the speeds up to the end of its piece.
use Rattle.std.proofs.Common.{rules, arith, ◌≡◌, ◌≤◌, ◌+◌, length, slice_range, take, sym, subst, IfOk, ◌++◌, ◌∷◌, []}
use Rattle.std.proofs.lemmas.List.{length-append}
use Rattle.road_cells.specs.Cars.{cars_of}
use Rattle.road_ends.specs.Input.{input_speeds, input_speeds_between}
use Rattle.road_workers.specs.Private.Pieces.{piece_start}
use Rattle.road_workers.specs.Private.Started.{IsOfWorker}
use Rattle.road_workers.proofs.scoped.join_workers.Goals as goal

pub loop-worker-preserved : goal.loop-worker-preserved
loop-worker-preserved g c =
    let was = c.loop-worker.invariant in
    let input = c.args.input.now in
    let all = input_speeds input in
    let n = c.args.workers in
    let m = length (cars_of input.road) in
    let done = length c.loop-worker.yielded in
    let worker = c.in-Some.worker in
    let piece = worker.promise.piece in
    let first = piece_start n m done in
    let end = piece_start n m (done + 1) in
    let its : IsOfWorker input n done worker.promise = let h = was.rest 0 worker in grind rules in
    let next : length (c.loop-worker.yielded ++ worker ∷ []) ≡ done + 1 = length-append c.loop-worker.yielded (worker ∷ []) in
    let mine : IfOk c.join.result (λ new. new.items ≡ slice_range all first end) =
    subst (λ b. IfOk c.join.result (λ new. new.items ≡ slice_range all first b)) its.to
    (subst (λ a. IfOk c.join.result (λ new. new.items ≡ slice_range all a piece.end)) its.from
    (subst (λ i. IfOk c.join.result (λ new. new.items ≡ input_speeds_between i piece.first piece.end)) its.of_input c.join.ensures)) in
    let order : first ≤ end = let from = its.from in let to = its.to in let rise = its.order in omega arith in
    record {
      count = grind rules;
      rest = λ k d below. let h = was.rest (k + 1) d in grind rules;
      front = subst (λ k. IfOk c.append-whole.result (λ new. new.items ≡ take (piece_start n m k) all)) (sym next)
          (c.append-whole.ensures all first end order was.front mine);
    }
