-- One more worker is started.
use Rattle.std.proofs.Common.{rules, length, sym, subst}
use Rattle.road_workers.specs.Private.Started.{AreStartedFrom, IsOfWorker}
use Rattle.road_workers.proofs.OneMore.{started_one_more}
use Rattle.road_workers.proofs.scoped.start_workers.Goals as goal

pub loop-worker-preserved : goal.loop-worker-preserved
loop-worker-preserved g c =
    let was = c.loop-worker.invariant in
    let input = c.args.input.now in
    let n = c.args.workers in
    let threads = c.loop-worker.started.items in
    let thread = c.in-Some.thread in
    let mine : IsOfWorker input n (length threads) thread.promise =
    let count = was.count in
    let met = c.in-Some.ensures in
    let first = c.of-piece.ensures.first in
    let end = c.of-piece.ensures.end in
    let order = c.of-piece.ensures.order in
    let cars = c.cars_in-cars.ensures.count in
    record { of_input = grind rules; from = grind rules; to = grind rules; order = grind rules } in
    record {
      count = let count = was.count in let more = c.in_ok-push.ensures.len in grind rules;
      each = subst (AreStartedFrom input n 0) (sym c.in_ok-push.ensures.items) (started_one_more input n threads thread was.each mine);
    }
