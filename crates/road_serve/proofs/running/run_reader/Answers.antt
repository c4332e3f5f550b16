-- The reader is read. If there was no entropy, it is as if its first read had failed.
use Rattle.std.proofs.Common.{Err, inl, inr, refl}
use Rattle.road_plan.specs.declared.limits.TheConstants.{MOST_LINES, MOST_BYTES}
use Rattle.road_serve.specs.Statuses.{after_failed_read}
use Rattle.road_serve.specs.StreamViews.{source_view, sink_view}
use Rattle.road_serve.specs.declared.faults.ServeFault.TheVariants.{Read}
use Rattle.road_serve.proofs.RunEnds.{first_read_failed}
use Rattle.road_serve.proofs.running.run_reader.Goals as goal

pub returns-in-Ok : goal.returns-in-Ok
returns-in-Ok g c =
    let ran = c.run_hashed.ensures in (ran.0, ran.1, ran.2, source_view g.R.Source c.run_hashed.new.reader, record { ends = ran.3; reads = inl refl })

pub returns-in-Err : goal.returns-in-Err
returns-in-Err g c =
    let source = source_view g.R.Source c.args.reader.now in (
      Err Read,
      0,
      λ alone. refl,
      after_failed_read source,
      record {
        ends = record { status = c.end_after_fault.ensures; answers = first_read_failed MOST_LINES MOST_BYTES source (sink_view g.W.Sink c.args.writer.now) };
        reads = inr (record { result = refl; counted = refl; unread = refl; unwritten = refl });
      },
    )
