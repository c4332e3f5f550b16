-- The result of a stretch is put at the place of its worker.
use Rattle.std.proofs.Common.{rules, ◌≡◌, ◌+◌, ◌<◌, length, subst, IfOk, IsTrue}
use Rattle.road_cells.specs.Cars.{cars_of}
use Rattle.road_workers.specs.Private.Gathered.{IsRunAt}
use Rattle.road_workers.specs.Private.Stretches.{IsRunOf, cut}
use Rattle.road_workers.proofs.OneMore.{run_set}
use Rattle.road_workers.proofs.pool.side_by_side.accept_run.Goals as goal

pub returns-clause-gathered : goal.returns-clause-gathered
returns-clause-gathered c =
    let span = c.args.shares.span.now in
    let road = c.args.shares.road.now in
    let own = c.args.shares.own in
    let places = c.args.places.now.items in
    let worker = c.in-Some.place in
    let done = c.args.done in
    let slice = c.as_slice.ensures.value in
    let inside : worker < length places = let within = c.in-Some.ensures.missing.0 in grind rules in
    let from : done.stretch.first ≡ cut span.plan.cells (cars_of road) (own + length places) (own + worker) = let first = c.in-Some.ensures.first in grind rules in
    let to : done.stretch.end ≡ cut span.plan.cells (cars_of road) (own + length places) (own + worker + 1) = let end = c.in-Some.ensures.end in grind rules in
    let asked : IsTrue c.is_asked.result = let test = c.if-not-is_asked.ensures in let not = c.if-not-is_asked.false in grind rules in
    let its : IsRunAt span road (own + length places) (own + worker) done.answer =
    subst (λ end. IfOk done.answer (IsRunOf (cut span.plan.cells (cars_of road) (own + length places) (own + worker)) end span road)) to
    (subst (λ first. IfOk done.answer (IsRunOf first done.stretch.end span road)) from (c.is_asked.ensures asked)) in
    run_set span road own places worker done.answer c.requires.gathered inside its
