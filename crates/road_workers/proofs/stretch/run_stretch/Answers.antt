-- The cars near a stretch determine its cars and its totals.
use Rattle.road_workers.proofs.StretchCars.{run-nearby}
use Rattle.road_workers.proofs.stretch.run_stretch.Goals as goal

pub returns : goal.returns
returns c = run-nearby c.args.stretch.first c.args.stretch.end c.args.span.now c.in_ok-near.near c.args.road.now _ c.requires.order c.in_ok-near.ensures.agrees c.in_ok-run.ensures
