-- Each detector so far is on.
use Rattle.std.proofs.Common.{◌≡◌, map, take, true}
use Rattle.road_plan.proofs.settings.all_on.Given as goal

abbrev pub invariant-loop-site : goal.invariant-loop-site
invariant-loop-site l = l.watched.items ≡ map (λ site. true) (take l._site-index l.detectors)
