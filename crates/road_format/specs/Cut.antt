-- An input is cut into lines at each newline byte.
use Rattle.std.specs.Prelude.{ℕ, List, [], ◌∷◌, ◌++◌, ◌==◌, Bool, true, false, if◌then◌else◌}

-- the byte that ends a line
abbrev pub newline : ℕ
newline = 10

-- the lines that end with a newline, without it, and the piece after the last newline
abbrev pub Pieces : Type 0
Pieces = List (List ℕ) × List ℕ

-- the pieces after a byte is put in front of the first of them
abbrev pub pieces_with_byte_in_line : ℕ → List (List ℕ) → List ℕ → Pieces
pieces_with_byte_in_line x [] rest = ([], x ∷ rest)
pieces_with_byte_in_line x (line ∷ lines) rest = ((x ∷ line) ∷ lines, rest)

-- the pieces after a byte is put in front: a newline makes an empty line
abbrev pub pieces_with_byte : ℕ → Pieces → Pieces
pieces_with_byte x pieces =
    if x == newline then ([] ∷ pieces.0, pieces.1) else pieces_with_byte_in_line x pieces.0 pieces.1

-- the pieces of these bytes
abbrev pub pieces_of : List ℕ → Pieces
pieces_of [] = ([], [])
pieces_of (x ∷ xs) = pieces_with_byte x (pieces_of xs)

-- a last piece without a newline: it is a line if the input has ended and the piece is not empty
abbrev pub last_line : Bool → List ℕ → List (List ℕ)
last_line false rest = []
last_line true [] = []
last_line true (x ∷ rest) = (x ∷ rest) ∷ []

-- the lines of an input, or of what has been read of it so far
abbrev pub lines_of : List ℕ → Bool → List (List ℕ)
lines_of bytes ended = let pieces = pieces_of bytes in pieces.0 ++ last_line ended pieces.1
