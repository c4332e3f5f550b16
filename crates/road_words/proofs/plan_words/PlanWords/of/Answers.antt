-- The words of the seed.
use Rattle.std.proofs.Common.{rules}
use Rattle.road_words.proofs.plan_words.PlanWords.of.Goals as goal

pub returns-in-Seeded : goal.returns-in-Seeded
returns-in-Seeded c = search rules
