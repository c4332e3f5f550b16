-- A script is read from its first byte. A script that was not opened is like a source whose first read fails.
use Rattle.std.proofs.Common.{Err, inl, refl}
use Rattle.road_plan.specs.declared.limits.TheConstants.{MOST_LINES, MOST_BYTES}
use Rattle.road_serve.specs.StreamViews.{sink_view}
use Rattle.road_serve.specs.declared.faults.ServeFault.TheVariants.{Read}
use Rattle.road_serve.proofs.RunEnds.{unopened, unopened_source}
use Rattle.road_serve.proofs.ScriptSources.{source_is}
use Rattle.road_serve.proofs.running.run_opened.Goals as goal

pub returns-in-Some-clause-script : goal.returns-in-Some-clause-script
returns-in-Some-clause-script g c =
    let ran = c.run_reader.ensures in
    rw (c.in-Some.is)
    (ran.0, ran.1, ran.2, _, ran.3, (ran.4.ends, source_is _ _ c.new-reader.ensures.remaining c.new-reader.ensures.going c.new-reader.ensures.failures))

pub returns-in-None-clause-script : goal.returns-in-None-clause-script
returns-in-None-clause-script g c = rw (c.in-None.is) (
  Err Read,
  0,
  λ alone. refl,
  unopened_source 0,
  unopened_source 1,
  (record { status = c.end_after_fault.ensures; answers = unopened MOST_LINES MOST_BYTES (sink_view g.W.Sink c.args.writer.now) }, (inl refl, refl)),
)
