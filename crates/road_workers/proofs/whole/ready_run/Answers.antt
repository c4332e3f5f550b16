-- A new run starts if each car of the road can be held in a run.
use Rattle.std.proofs.Common.{◌≡◌, ◌∙◌, IfOk, IsSome, ap, sym}
use Rattle.std.proofs.Math.Path.{transport}
use Rattle.road_plan.specs.Plan.{Plan}
use Rattle.road_columns.specs.RoadOrRun.{road_now}
use Rattle.road_columns.specs.UnderWay.{IsRunnable}
use Rattle.road_workers.proofs.whole.ready_run.Goals as goal

pub returns-in-Road-clause-some : goal.returns-in-Road-clause-some
returns-in-Road-clause-some c =
    let span = c.args.span.now in
    let end : c.length-end.result ≡ span.plan.cells = c.length-end.ensures.cells ∙ ap (λ (p : Plan). p.cells) (c.deref.ensures ∙ c.plan.ensures.plan) in
    let road = sym (ap road_now c.in-Road.is) in
    transport (λ i. IfOk c.start_run.result (λ run. IsRunnable 0 (end i) span.plan (road i) → IsSome run)) c.start_run.ensures.some

pub returns-in_ok-road-in-Run-clause-some : goal.returns-in_ok-road-in-Run-clause-some
returns-in_ok-road-in-Run-clause-some c =
    let span = c.args.span.now in
    let end : c.length-end.result ≡ span.plan.cells = c.length-end.ensures.cells ∙ ap (λ (p : Plan). p.cells) (c.deref.ensures ∙ c.plan.ensures.plan) in
    let road = c.in_ok-road-in-Run.ensures ∙ sym (ap road_now c.in-Run.is) in
    transport (λ i. IfOk c.start_run-in-Run.result (λ run. IsRunnable 0 (end i) span.plan (road i) → IsSome run)) c.start_run-in-Run.ensures.some
