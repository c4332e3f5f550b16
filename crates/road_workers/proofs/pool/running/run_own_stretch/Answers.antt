-- If the caller has no stretch, nothing comes before the stretches of the workers; otherwise it runs the first stretch.
use Rattle.std.proofs.Common.{◌≡◌, ◌+◌, ◌∙◌, IfOk, rules, arith, sym, subst}
use Rattle.road_cells.specs.Cars.{cars_of}
use Rattle.road_workers.specs.Private.Stretches.{IsJoined, IsRunOf, cut}
use Rattle.road_workers.proofs.StretchTotals.{if_ok}
use Rattle.road_workers.proofs.pool.running.run_own_stretch.Goals as goal

pub returns-then-own-eq0 : goal.returns-then-own-eq0
returns-then-own-eq0 c =
    let span = c.args.shares.span.now in
    let road = c.args.shares.road.now in
    let none : c.args.shares.own ≡ 0 = let is = c.if-own-eq0.true in grind rules in
    subst (λ w. IfOk c.join_none.result (IsJoined (cut span.plan.cells (cars_of road) (c.args.shares.own + c.args.workers) w) span road)) (sym none)
    (if_ok c.join_none.result _ _ (λ joined is. is road) c.join_none.ensures)

pub returns : goal.returns
returns c =
    let span = c.args.shares.span.now in
    let road = c.args.shares.road.now in
    let n = c.args.shares.own + c.args.workers in
    let first = c.stretch_at-first.ensures in
    let one : c.args.shares.own ≡ 1 = let few = c.requires.own in let some = c.if-own-eq0.false in grind (arith, rules) in
    let cells : c.length.result ≡ span.plan.cells = let is = c.length.ensures.cells in let plan = c.plan.ensures.plan in let value = c.deref.ensures in grind rules in
    let end : c.stretch_at-first.result.end ≡ cut span.plan.cells (cars_of road) n c.args.shares.own =
    first.end ∙ (λ i. cut (cells i) (cars_of road) n (sym one i)) in
    subst (λ end. IsJoined end span road c.join_first.result) end
    (c.join_first.ensures span road
    (subst (λ lo. IsRunOf lo c.stretch_at-first.result.end span road c.in_ok-ran.ran) first.first c.in_ok-ran.ensures))
