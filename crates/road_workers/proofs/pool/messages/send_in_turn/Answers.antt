-- One more job was taken.
use Rattle.std.proofs.Common.{rules, arith, ◌<◌, ℕ, subst, sym, inl, inr}
use Rattle.std.proofs.lemmas.Bool.{cases_eq}
use Rattle.road_workers.specs.Private.Jobs.{Took}
use Rattle.road_workers.proofs.pool.messages.send_in_turn.Goals as goal

pub loop-worker-preserved : goal.loop-worker-preserved
loop-worker-preserved g c = λ w below.
    let taken : ℕ → Type 0 = λ w. Took (goal.M-post g c.args.make.now) (goal.F-post g c.args.send.now) c.args.workers.now w in
    elim (cases_eq w c.loop-worker.worker) as (λ _. taken w) [
      | inl at ↦ subst taken (sym at) c.in_default.ensures.took
      | inr other ↦ c.loop-worker.invariant w (omega (arith, below, other))
    ]

pub returns-clause-took : goal.returns-clause-took
returns-clause-took g c = λ w below.
    let sent : w < c.loop-worker.worker = let test = c.loop-worker-test.false in grind (rules, arith) in
    c.loop-worker.invariant w sent
