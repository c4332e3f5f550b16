-- Laws of the lines of every input.
use Rattle.std.specs.Prelude.{◌≡◌, ◌≢◌, ℕ, List, [], ◌∷◌, ◌++◌, Bool, false, All}
use Rattle.road_format.specs.Cut.{newline, pieces_of, lines_of}

-- the lines of an input read so far are the first lines of every longer input
abbrev pub LinesGoOn : Type 0
LinesGoOn = (first more : List ℕ) (ended : Bool)
    → (rest : List (List ℕ)) × (lines_of (first ++ more) ended ≡ lines_of first false ++ rest)

-- these lines, each followed by a newline
abbrev pub lines_and_newlines : List (List ℕ) → List ℕ
lines_and_newlines [] = []
lines_and_newlines (line ∷ lines) = line ++ newline ∷ lines_and_newlines lines

-- the pieces of an input, put together again, are the input
abbrev pub CutLosesNothing : Type 0
CutLosesNothing = (bytes : List ℕ) → lines_and_newlines (pieces_of bytes).0 ++ (pieces_of bytes).1 ≡ bytes

-- a text contains no newline
abbrev pub HasNoNewline : List ℕ → Type 0
HasNoNewline text = All (λ byte. byte ≢ newline) text

-- no line and no last piece contains a newline
abbrev pub LinesHaveNoNewline : Type 0
LinesHaveNoNewline = (bytes : List ℕ) → All HasNoNewline (pieces_of bytes).0 × HasNoNewline (pieces_of bytes).1
