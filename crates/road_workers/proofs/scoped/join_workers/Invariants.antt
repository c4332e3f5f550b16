-- The loop that joins the workers.
use Rattle.std.proofs.Common.{◌≡◌, ◌+◌, length, take, vec_len, IfOk}
use Rattle.std.specs.Vec.Iter.{into_iter_items, into_iter_len}
use Rattle.road_cells.specs.Cars.{cars_of}
use Rattle.road_ends.specs.Input.{input_speeds}
use Rattle.road_workers.specs.Private.Pieces.{piece_start}
use Rattle.road_workers.specs.Private.Started.{AreStartedFrom}
use Rattle.road_workers.proofs.scoped.join_workers.Given as goal

abbrev pub invariant-loop-worker : goal.invariant-loop-worker
invariant-loop-worker g l = record {
  count : length l.yielded + into_iter_len l.worker-iterator ≡ vec_len l.fn.started;
  rest : AreStartedFrom l.input l.workers (length l.yielded) (into_iter_items l.worker-iterator);
  front : IfOk l.whole (λ new. new.items ≡ take (piece_start l.workers (length (cars_of l.input.road)) (length l.yielded)) (input_speeds l.input));
}
