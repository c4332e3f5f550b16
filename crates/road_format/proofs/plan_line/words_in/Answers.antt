-- A number is the seed of the words.
use Rattle.std.proofs.Common.{rules}
use Rattle.road_format.proofs.plan_line.words_in.Goals as goal

pub returns-in-Some : goal.returns-in-Some
returns-in-Some c = search rules
