-- The run has made the steps on the whole road.
use Rattle.std.proofs.Common.{◌∙◌, ap, sym}
use Rattle.road_plan.specs.Plan.{Plan}
use Rattle.road_columns.specs.RoadOrRun.{road_now}
use Rattle.road_workers.proofs.WholeRuns.{all_counted, whole_run}
use Rattle.road_workers.proofs.whole.run_alone.Goals as goal

pub returns-clause-road : goal.returns-clause-road
returns-clause-road c =
    let whole = whole_run c.args.span.now (road_now c.args.road) _ _ _ c.in_ok-run.ensures.ready c.in-Some.is c.in_ok-make_steps.ensures in
    whole.road

pub returns-clause-totals : goal.returns-clause-totals
returns-clause-totals c =
    let whole = whole_run c.args.span.now (road_now c.args.road) _ _ _ c.in_ok-run.ensures.ready c.in-Some.is c.in_ok-make_steps.ensures in
    c.in_ok-totals.ensures ∙ all_counted c.args.span.now (road_now c.args.road) _ whole

pub returns-clause-given_on : goal.returns-clause-given_on
returns-clause-given_on c =
    let whole = whole_run c.args.span.now (road_now c.args.road) _ _ _ c.in_ok-run.ensures.ready c.in-Some.is c.in_ok-make_steps.ensures in
    record { step = whole.step; lo = whole.from; hi = whole.to ∙ sym (ap (λ (p : Plan). p.cells) whole.plan) }
