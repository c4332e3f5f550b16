-- The run has made the steps on all cells that may matter to the stretch.
use Rattle.std.proofs.Common.{◌∙◌, ap, subst, sym, arith}
use Rattle.std.proofs.Math.Path.{transport}
use Rattle.std.proofs.lemmas.Bool.{false≢true}
use Rattle.std.specs.Prelude.{IfSome, IsSome, is_some}
use Rattle.std.specs.declared.option.Option.{Option}
use Rattle.road_columns.specs.UnderWay.{IsRunnable, UnderWay}
use Rattle.road_workers.specs.Private.RunsUnderWay.{IsAfter, IsReady}
use Rattle.road_workers.proofs.NearRuns.{near_after, near_ready}
use Rattle.road_workers.proofs.stretch.run_near.Goals as goal

pub unreachable-requires : goal.unreachable-requires
unreachable-requires c =
    let margins = c.with_margins.ensures in
    let some : IsSome c.in_ok-run.field-0 = c.in_ok-run.ensures.some (transport (λ i. IsRunnable (sym margins.first i) (sym margins.end i) c.args.span.now.plan c.args.near.now) c.requires.runnable) in
    false≢true (ap (λ (run : Option UnderWay). is_some run) (sym c.in_default.is) ∙ some)

pub cut_out-requires-clause-after : goal.cut_out-requires-clause-after
cut_out-requires-clause-after c =
    let span = c.args.span.now in
    let run = c.in-Some.run' in
    let margins = c.with_margins.ensures in
    let begun = subst (λ (o : Option UnderWay). IfSome o (IsReady c.with_margins.result.first c.with_margins.result.end c.args.span.now c.args.near.now)) c.in-Some.is c.in_ok-run.ensures.ready in
    let ready = transport (λ i. IsReady (margins.first i) (margins.end i) c.args.span.now c.args.near.now c.in-Some.run') begun in
    subst (IsAfter c.args.stretch.first c.args.stretch.end span span.steps c.args.near.now) (sym c.in_ok-make_steps.ensures)
    (near_after c.args.stretch.first c.args.stretch.end span span.steps c.args.near.now _ (omega arith)
    (near_ready c.args.stretch.first c.args.stretch.end span c.args.near.now run ready))
