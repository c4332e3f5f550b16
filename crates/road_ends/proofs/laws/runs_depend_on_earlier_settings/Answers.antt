-- Settings change no state before them.
use Rattle.road_ends.proofs.Locality.{depend_on_earlier_settings}
use Rattle.road_ends.proofs.laws.runs_depend_on_earlier_settings.Goals as goal

pub returns : goal.returns
returns c = depend_on_earlier_settings c.args.plan.now
