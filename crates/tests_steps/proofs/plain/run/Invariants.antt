use Rattle.std.proofs.Common.{◌≡◌}
use Rattle.road_plan.specs.Settings.{defaults}
use Rattle.road_ends.specs.Run.{run}
use Rattle.tests_steps.proofs.plain.run.Given as goal

abbrev pub invariant-loop-now : goal.invariant-loop-now
invariant-loop-now l = l.road ≡ run l.plan (λ _. defaults l.plan) l.now
