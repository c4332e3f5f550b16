-- The answer that came is put at the place of its worker.
use Rattle.std.proofs.Common.{◌≡◌, ◌<◌, ◌+◌, rules, length, subst, IfOk}
use Rattle.std.specs.Arc.{arc_value}
use Rattle.road_cells.specs.Cars.{cars_of}
use Rattle.road_ends.specs.Input.{input_speeds_between}
use Rattle.road_workers.specs.Private.Pieces.{piece_start}
use Rattle.road_workers.specs.Private.Gathered.{IsAnswerOf}
use Rattle.road_workers.proofs.OneMore.{gathered_set}
use Rattle.road_workers.proofs.pool.gathering.accept.Goals as goal

pub returns-clause-gathered : goal.returns-clause-gathered
returns-clause-gathered c =
    let input = c.args.input.now in
    let places = c.args.places.now.items in
    let worker = c.in-Some.place in
    let done = c.args.done in
    let answer = done.answer in
    let missing = c.in-Some.ensures.missing in
    let of_first = c.in-Some.ensures.first in
    let of_end = c.in-Some.ensures.end in
    let slice = c.as_slice.ensures.value in
    let cars = c.requires.cars in
    let inside : worker < length places = let within = missing.0 in grind rules in
    let from : done.piece.first ≡ piece_start (length places) (length (cars_of input.road)) worker = let first = of_first in grind rules in
    let to : done.piece.end ≡ piece_start (length places) (length (cars_of input.road)) (worker + 1) = let end = of_end in grind rules in
    let same = c.same.ensures in
    let test = c.if-not-same.ensures in
    let value = c.deref.ensures in
    let of_input : arc_value done.input ≡ input = grind rules in
    let its : IsAnswerOf input (length places) worker answer =
    subst (λ end. IfOk answer (λ new. new.items ≡ input_speeds_between input (piece_start (length places) (length (cars_of input.road)) worker) end)) to
    (subst (λ first. IfOk answer (λ new. new.items ≡ input_speeds_between input first done.piece.end)) from
    (subst (λ i. IfOk answer (λ new. new.items ≡ input_speeds_between i done.piece.first done.piece.end)) of_input done.right)) in
    gathered_set input places worker answer c.requires.gathered inside its
