-- The words of a source, as values of the program's type.
use Rattle.std.specs.Prelude.{ℕ}
use Rattle.road_words.specs.Words.{chacha_word, steady_word}
use Rattle.road_columns.specs.declared.words.Source.{Source}
use Rattle.road_columns.specs.declared.words.Source.TheVariants.{Seeded, Steady}

-- a word of a source: the word of the generator under its key, or the steady word
abbrev pub drawn_word : Source → ℕ → ℕ → ℕ
drawn_word (Seeded key) stream place = chacha_word key stream place
drawn_word Steady stream place = steady_word stream place
