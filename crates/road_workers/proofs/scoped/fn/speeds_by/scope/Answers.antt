-- The speeds of all workers are those of all cars.
use Rattle.std.proofs.Common.{arith, ◌≡◌, ◌∙◌, ap, length, take, vec_len}
use Rattle.road_cells.specs.Cars.{cars_of}
use Rattle.road_ends.specs.Input.{input_speeds}
use Rattle.road_workers.specs.Private.Pieces.{piece_start}
use Rattle.road_workers.proofs.PiecesInOrder.{whole_step}
use Rattle.road_workers.proofs.scoped.fn.speeds_by.scope.Goals as goal

pub returns : goal.returns
returns g c =
    let input = c.captures.input.now in
    let n = c.captures.workers in
    let found = c.len-count.ensures in
    let most = c.in_ok-started.ensures.count in
    let enough = c.if-count-workers.false in
    let count : vec_len c.in_ok-started.started ≡ n = omega arith in
    c.in_ok-whole-2.ensures ∙ ap (λ k. take (piece_start n (length (cars_of input.road)) k) (input_speeds input)) count
    ∙ whole_step input n c.requires.0
