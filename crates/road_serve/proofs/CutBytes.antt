-- Lines are cut as bytes come.
use Rattle.std.proofs.Common.{◌≡◌, ◌<◌, ◌==◌, ◌+◌, ℕ, suc, List, [], ◌∷◌, ◌++◌, length, take, Bool, true, false, Some, None, refl, ap, subst, ◌∙◌, arith}
use Rattle.std.specs.Prelude.{nat_lt, cond}
use Rattle.std.specs.List.{position, position_or_len}
use Rattle.std.proofs.lemmas.Bool.{ltb-true, ltb-false, eqb-true}
use Rattle.road_format.specs.Cut.{newline, Pieces, pieces_with_byte_in_line, pieces_with_byte, pieces_of}

-- a text without a newline
abbrev pub IsLine : List ℕ → Type 0
IsLine [] = Unit {0}
IsLine (x ∷ xs) = ((x == newline) ≡ false) × IsLine xs

cut_begun : (x : ℕ) (p : Pieces) → (x == newline) ≡ false → pieces_with_byte x p ≡ pieces_with_byte_in_line x p.0 p.1
cut_begun x p h = rw h refl

cut-line : (b : List ℕ) → IsLine b → pieces_of b ≡ ([], b)
cut-line [] line = refl
cut-line (x ∷ b) line = ap (pieces_with_byte x) (cut-line b line.1) ∙ cut_begun x ([], b) line.0

-- ---- bytes of one line, after other bytes

more_at : (x : ℕ) (p : Pieces) (b : List ℕ) (t : Bool) → (x == newline) ≡ t → pieces_with_byte x (p.0, p.1 ++ b) ≡ ((pieces_with_byte x p).0, (pieces_with_byte x p).1 ++ b)
more_at x p b true e = rw e refl
more_at x ([], rest) b false e = rw e refl
more_at x (line ∷ lines, rest) b false e = rw e refl

pub cut-more : (a b : List ℕ) → IsLine b → pieces_of (a ++ b) ≡ ((pieces_of a).0, (pieces_of a).1 ++ b)
cut-more [] b line = cut-line b line
cut-more (x ∷ a) b line = ap (pieces_with_byte x) (cut-more a b line) ∙ more_at x (pieces_of a) b (x == newline) refl

-- a newline after them ends the line
ended_at : (x : ℕ) (p : Pieces) (t : Bool) → (x == newline) ≡ t → pieces_with_byte x (p.0 ++ p.1 ∷ [], []) ≡ ((pieces_with_byte x p).0 ++ (pieces_with_byte x p).1 ∷ [], [])
ended_at x p true e = rw e refl
ended_at x ([], rest) false e = rw e refl
ended_at x (line ∷ lines, rest) false e = rw e refl

pub cut-newline : (a : List ℕ) → pieces_of (a ++ newline ∷ []) ≡ ((pieces_of a).0 ++ (pieces_of a).1 ∷ [], [])
cut-newline [] = refl
cut-newline (x ∷ a) = ap (pieces_with_byte x) (cut-newline a) ∙ ended_at x (pieces_of a) (x == newline) refl

-- ---- the place where the first line of bytes ends

-- the number of bytes before the first newline, or of all bytes if there is no newline
abbrev line_len : List ℕ → ℕ
line_len b = position_or_len (λ x. x == newline) b

one_more : (n : ℕ) → 1 + n ≡ suc n
one_more n = omega arith

line_len-other : (x : ℕ) (b : List ℕ) → (x == newline) ≡ false → line_len (x ∷ b) ≡ suc (line_len b)
line_len-other x b other = rw other (one_more (line_len b))

line_len-newline : (x : ℕ) (b : List ℕ) → (x == newline) ≡ true → line_len (x ∷ b) ≡ 0
line_len-newline x b is = rw is refl

front_at : (x : ℕ) (b : List ℕ) (t : Bool) → (x == newline) ≡ t → IsLine (take (line_len b) b) → IsLine (take (line_len (x ∷ b)) (x ∷ b))
front_at x b true e line = rw (line_len-newline x b e) tt
front_at x b false e line = rw (line_len-other x b e) (e, line)

line_front : (b : List ℕ) → IsLine (take (line_len b) b)
line_front [] = tt
line_front (x ∷ b) = front_at x b (x == newline) refl (line_front b)

abbrev EndsBefore : List ℕ → Type 0
EndsBefore b = line_len b < length b → take (suc (line_len b)) b ≡ take (line_len b) b ++ newline ∷ []

ends_at : (x : ℕ) (b : List ℕ) (t : Bool) → (x == newline) ≡ t → EndsBefore b → EndsBefore (x ∷ b)
ends_at x b true e ends = rw (line_len-newline x b e) (λ short. ap (λ (y : ℕ). y ∷ []) (eqb-true x newline e))
ends_at x b false e ends = rw (line_len-other x b e) (λ short. ap (λ (l : List ℕ). x ∷ l) (ends (omega arith)))

line_ends : (b : List ℕ) → EndsBefore b
line_ends [] = λ short. absurd (omega arith)
line_ends (x ∷ b) = ends_at x b (x == newline) refl (line_ends b)

whole_at : (x : ℕ) (b : List ℕ) (t : Bool) → (x == newline) ≡ t → ((line_len b < length b → ⊥) → IsLine b) → (line_len (x ∷ b) < length (x ∷ b) → ⊥) → IsLine (x ∷ b)
whole_at x b true e line long = absurd (long (let none : line_len (x ∷ b) ≡ 0 = line_len-newline x b e in omega arith))
whole_at x b false e line long = (e, line (λ short. long (let more : line_len (x ∷ b) ≡ suc (line_len b) = line_len-other x b e in omega arith)))

line_whole : (b : List ℕ) → (line_len b < length b → ⊥) → IsLine b
line_whole [] = λ long. tt
line_whole (x ∷ b) = whole_at x b (x == newline) refl (line_whole b)

-- the newline is at place i
pub record EndsAt (b : List ℕ) (i : ℕ) : Type 0 where
  pub below : i < length b
  pub line : IsLine (take i b)
  pub newline_next : take (suc i) b ≡ take i b ++ newline ∷ []

by_found : (b : List ℕ) (i : ℕ) (t : Bool) → nat_lt (line_len b) (length b) ≡ t → cond t (Some (line_len b)) None ≡ Some i → EndsAt b i
by_found b i true e is =
    let same : line_len b ≡ i = cc in
    let Family : ℕ → Type 0 = λ k. EndsAt b k in
    let short = ltb-true (line_len b) (length b) e in
    subst Family same (record { below = short; line = line_front b; newline_next = line_ends b short })
by_found b i false e is = absurd (cc)

pub newline_found : (b : List ℕ) (i : ℕ) → position (λ x. x == newline) b ≡ Some i → EndsAt b i
newline_found b i is = by_found b i (nat_lt (line_len b) (length b)) refl is

by_none : (b : List ℕ) (t : Bool) → nat_lt (line_len b) (length b) ≡ t → cond t (Some (line_len b)) None ≡ None → IsLine b
by_none b true e is = absurd (cc)
by_none b false e is = let least = ltb-false (line_len b) (length b) e in line_whole b (λ short. omega arith)

pub no_newline : (b : List ℕ) → position (λ x. x == newline) b ≡ None → IsLine b
no_newline b is = by_none b (nat_lt (line_len b) (length b)) refl is
