-- The formula.
use Rattle.std.proofs.Common.{rules}
use Rattle.road_words.proofs.steady.SteadyWordsWords.word.Goals as goal

pub returns : goal.returns
returns c = search rules
