-- A law of the answers to every input.
use Rattle.std.specs.Prelude.{◌≡◌, ℕ, List, ◌++◌, Bool, false}
use Rattle.road_serve.specs.Answers.{answers_within}

-- the answers to an input read so far are a prefix of the answers to every longer input
abbrev pub AnswersGoOn : Type 0
AnswersGoOn =
    (lines limit : ℕ) (first more : List ℕ) (ended : Bool)
    → (rest : List ℕ)
    × (answers_within lines limit (first ++ more) ended ≡ answers_within lines limit first false ++ rest)
