-- If memory runs out for the arguments, the program ends before it has read or written anything.
use Rattle.std.proofs.Common.{Err, None, inl, inr, refl}
use Rattle.road_plan.specs.declared.limits.TheConstants.{MOST_LINES, MOST_BYTES}
use Rattle.road_serve.specs.StreamViews.{source_view, sink_view}
use Rattle.road_serve.specs.declared.faults.ServeFault.TheVariants.{OutOfMemory}
use Rattle.road_serve.proofs.RunEnds.{not_begun}
use Rattle.road_serve.proofs.running.run.Goals as goal

pub returns-in-Err-OutOfMemory-clause-served : goal.returns-in-Err-OutOfMemory-clause-served
returns-in-Err-OutOfMemory-clause-served g c accepted none =
    let source = source_view g.R.Source c.args.reader.now in (
      Err OutOfMemory,
      0,
      λ alone. refl,
      source,
      record {
        ends = record { status = c.no_memory.ensures; answers = not_begun MOST_LINES MOST_BYTES source (sink_view g.W.Sink c.args.writer.now) };
        reads = inl refl;
      },
    )

pub returns-in-Err-OutOfMemory-clause-script : goal.returns-in-Err-OutOfMemory-clause-script
returns-in-Err-OutOfMemory-clause-script g c accepted some =
    let source = source_view g.R.Source c.args.reader.now in (
      refl,
      Err OutOfMemory,
      0,
      λ alone. refl,
      source,
      source,
      None,
      (record { status = c.no_memory.ensures; answers = not_begun MOST_LINES MOST_BYTES source (sink_view g.W.Sink c.args.writer.now) }, (inr refl, refl)),
    )
