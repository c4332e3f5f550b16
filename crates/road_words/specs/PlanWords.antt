-- The words of a source that is a value of the program's type.
use Rattle.std.specs.Prelude.{ℕ}
use Rattle.road_words.specs.Words.{chacha_word, steady_word}
use Rattle.road_words.specs.declared.plan_words.PlanWords.{PlanWords}
use Rattle.road_words.specs.declared.plan_words.PlanWords.TheVariants.{Seeded, Steady}

-- the word of a source: the generator's word under the key that it holds, or the steady word
abbrev pub source_word : PlanWords → ℕ → ℕ → ℕ
source_word (Seeded words) stream place = chacha_word words.key stream place
source_word (Steady words) stream place = steady_word stream place
