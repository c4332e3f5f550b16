-- The loop that joins the results of the stretches, one after another.
use Rattle.std.proofs.Common.{◌≡◌, ◌+◌, length, vec_len, IfOk}
use Rattle.std.specs.Vec.Iter.{into_iter_items, into_iter_len}
use Rattle.road_cells.specs.Cars.{cars_of}
use Rattle.road_workers.specs.Private.Gathered.{AreThere, IsRunAt}
use Rattle.road_workers.specs.Private.Stretches.{IsJoined, cut}
use Rattle.road_workers.proofs.PiecesInOrder.{AreRightFrom}
use Rattle.road_workers.proofs.pool.side_by_side.put_side_by_side.Given as goal

abbrev pub invariant-loop-answer : goal.invariant-loop-answer
invariant-loop-answer l = record {
  count : length l.yielded + into_iter_len l.answer-iterator ≡ vec_len l.fn.places;
  place : l.place ≡ l.own + length l.yielded;
  there : AreThere (length (into_iter_items l.answer-iterator)) (into_iter_items l.answer-iterator);
  rest : AreRightFrom (λ w. IsRunAt l.span l.road (l.own + vec_len l.fn.places) (l.own + w)) (length l.yielded) (into_iter_items l.answer-iterator);
  front : IfOk l.whole (IsJoined (cut l.span.plan.cells (cars_of l.road) (l.own + vec_len l.fn.places) (l.own + length l.yielded)) l.span l.road);
}
