-- The steps of a span, one after another.
use Rattle.std.proofs.Common.{◌≡◌, ◌<◌, ℕ, length}
use Rattle.std.specs.List.{slice_index_or}
use Rattle.road_detector.specs.Passes.{no_totals, total_from}
use Rattle.road_columns.specs.RoadOrRun.{road_now}
use Rattle.road_workers.specs.Private.Stretches.{road_after}
use Rattle.road_workers.proofs.crew.Crew.run.Given as goal

-- the road after the steps so far, and what the detectors have counted in them
abbrev pub invariant-loop-made : goal.invariant-loop-made
invariant-loop-made g l = record {
  road : l.before ≡ road_after l.span l.made (road_now l.fn.road);
  each : length l.totals.items ≡ length l.span.plan.detectors;
  counted : (d : ℕ) → d < length l.totals.items → slice_index_or l.totals.items d no_totals
      ≡ total_from l.span.plan (λ _. l.span.settings) l.span.step l.made (road_now l.fn.road) d;
  gone : g.Self.Crew.times_gone l.self ≡ g.Self.Crew.times_gone l.fn.self;
}
