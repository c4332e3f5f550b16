-- The loop that appends one answer after another.
use Rattle.std.proofs.Common.{◌≡◌, ◌+◌, length, take, vec_len, IfOk}
use Rattle.std.specs.Vec.Iter.{into_iter_items, into_iter_len}
use Rattle.road_cells.specs.Cars.{cars_of}
use Rattle.road_ends.specs.Input.{input_speeds}
use Rattle.road_workers.specs.Private.Gathered.{AreThere, IsAnswerOf}
use Rattle.road_workers.specs.Private.Pieces.{piece_start}
use Rattle.road_workers.proofs.PiecesInOrder.{AreRightFrom}
use Rattle.road_workers.proofs.pool.gathering.put_together.Given as goal

abbrev pub invariant-loop-place : goal.invariant-loop-place
invariant-loop-place l = record {
  count : length l.yielded + into_iter_len l.place-iterator ≡ vec_len l.fn.places;
  there : AreThere (length (into_iter_items l.place-iterator)) (into_iter_items l.place-iterator);
  rest : AreRightFrom (IsAnswerOf l.input (vec_len l.fn.places)) (length l.yielded) (into_iter_items l.place-iterator);
  front : IfOk l.whole (λ new. new.items ≡ take (piece_start (vec_len l.fn.places) (length (cars_of l.input.road)) (length l.yielded)) (input_speeds l.input));
}
