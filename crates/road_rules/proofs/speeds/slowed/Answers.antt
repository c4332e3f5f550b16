-- A word below the chance subtracts one from the speed.
use Rattle.std.proofs.Common.{rules}
use Rattle.road_rules.proofs.speeds.slowed.Goals as goal

pub returns-then-word-chance : goal.returns-then-word-chance
returns-then-word-chance c = search rules
