-- A crew that does not start ends the program before it has read or written anything.
use Rattle.std.proofs.Common.{Err, sym, subst}
use Rattle.road_plan.specs.declared.limits.TheConstants.{MOST_LINES, MOST_BYTES}
use Rattle.road_serve.specs.Serving.{AnswersInput, program_serving}
use Rattle.road_serve.specs.StreamViews.{source_view, sink_view}
use Rattle.road_serve.specs.declared.faults.ServeFault.{ServeFault}
use Rattle.road_serve.proofs.RunEnds.{not_manned}
use Rattle.road_serve.proofs.running.run_hashed.Goals as goal

pub returns-in-Err : goal.returns-in-Err
returns-in-Err g c =
    let source = source_view g.R.Source c.args.reader.now in
    let sink = sink_view g.W.Sink c.args.writer.now in
    let none = not_manned MOST_LINES MOST_BYTES source sink c.in-Err.fault in (
      Err c.from.result,
      none.0,
      λ alone. absurd (let is = c.in-Some.is in cc (is, alone)),
      record {
        status = c.end_after_fault.ensures;
        answers = subst (λ (f : ServeFault). AnswersInput (program_serving source source sink sink 0 none.0 (Err f))) (sym c.from.ensures) none.1;
      },
    )
