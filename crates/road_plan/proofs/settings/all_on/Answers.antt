-- One more detector is on.
use Rattle.std.proofs.Common.{true, rules}
use Rattle.std.proofs.lemmas.List.{map_more}
use Rattle.road_plan.proofs.settings.all_on.Goals as goal

pub loop-site-preserved : goal.loop-site-preserved
loop-site-preserved c = search (map_more (λ site. true) c.args.detectors.now c.loop-site._site-index 0, rules)
