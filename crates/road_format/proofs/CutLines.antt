-- Laws of the cutting into lines.
use Rattle.std.proofs.Common.{◌≡◌, ◌≢◌, ◌==◌, ℕ, List, [], ◌∷◌, ◌++◌, Bool, true, false, refl, ap, sym, ◌∙◌, append_assoc, append-nil, All}
use Rattle.std.proofs.lemmas.Bool.{eqb-true, eqb-false}
use Rattle.std.proofs.lemmas.List.Elements.{All-nil, All-cons, All-head, All-tail}
use Rattle.road_format.specs.Cut.{Pieces, newline, pieces_with_byte, pieces_of, last_line}
use Rattle.road_format.specs.CutLaws.{LinesGoOn, lines_and_newlines, CutLosesNothing, HasNoNewline, LinesHaveNoNewline}

-- pieces, followed by the pieces of what continues their last one
abbrev pub joined_pieces : Pieces → Pieces → Pieces
joined_pieces p q = (p.0 ++ q.0, q.1)

pieces_with_byte-joined : (x : ℕ) (lines : List (List ℕ)) (rest ys : List ℕ) (b : Bool) → (x == newline) ≡ b
    → pieces_with_byte x (joined_pieces (lines, rest) (pieces_of (rest ++ ys))) ≡ joined_pieces (pieces_with_byte x (lines, rest)) (pieces_of ((pieces_with_byte x (lines, rest)).1 ++ ys))
pieces_with_byte-joined x lines rest ys true e = rw e refl
pieces_with_byte-joined x [] rest ys false e = rw e (rw e refl)
pieces_with_byte-joined x (line ∷ lines) rest ys false e = rw e refl

pub pieces_of-append : (xs ys : List ℕ) → pieces_of (xs ++ ys) ≡ joined_pieces (pieces_of xs) (pieces_of ((pieces_of xs).1 ++ ys))
pieces_of-append [] ys = refl
pieces_of-append (x ∷ xs) ys = ap (pieces_with_byte x) (pieces_of-append xs ys) ∙ pieces_with_byte-joined x (pieces_of xs).0 (pieces_of xs).1 ys (x == newline) refl

pub lines_go_on : LinesGoOn
lines_go_on first more ended =
    let after : Pieces = pieces_of ((pieces_of first).1 ++ more) in
    let rest : List (List ℕ) = after.0 ++ last_line ended after.1 in (
      rest,
      ap (λ (p : Pieces). p.0 ++ last_line ended p.1) (pieces_of-append first more)
          ∙ append_assoc (pieces_of first).0 after.0 (last_line ended after.1)
          ∙ ap (λ (ls : List (List ℕ)). ls ++ rest) (sym (append-nil (pieces_of first).0)),
    )

-- ---- the pieces are the input

abbrev together : Pieces → List ℕ
together p = lines_and_newlines p.0 ++ p.1

together-pieces_with_byte : (x : ℕ) (lines : List (List ℕ)) (rest : List ℕ) (b : Bool) → (x == newline) ≡ b → together (pieces_with_byte x (lines, rest)) ≡ x ∷ together (lines, rest)
together-pieces_with_byte x lines rest true e = rw e (ap (λ (b : ℕ). b ∷ lines_and_newlines lines ++ rest) (sym (eqb-true x newline e)))
together-pieces_with_byte x [] rest false e = rw e refl
together-pieces_with_byte x (line ∷ lines) rest false e = rw e refl

pub cut_loses_nothing : CutLosesNothing
cut_loses_nothing [] = refl
cut_loses_nothing (x ∷ xs) = together-pieces_with_byte x (pieces_of xs).0 (pieces_of xs).1 (x == newline) refl ∙ ap (λ (l : List ℕ). x ∷ l) (cut_loses_nothing xs)

-- ---- no newline in a line

abbrev ArePlain : Pieces → Type 0
ArePlain p = All HasNoNewline p.0 × HasNoNewline p.1

HasNoNewline-cons : (x : ℕ) (line : List ℕ) → (x == newline) ≡ false → HasNoNewline line → HasNoNewline (x ∷ line)
HasNoNewline-cons x line other plain = All-cons (λ byte. byte ≢ newline) x line (eqb-false x newline other) plain

plain-pieces_with_byte : (x : ℕ) (lines : List (List ℕ)) (rest : List ℕ) (b : Bool) → (x == newline) ≡ b → ArePlain (lines, rest) → ArePlain (pieces_with_byte x (lines, rest))
plain-pieces_with_byte x lines rest true e plain = rw e (All-cons HasNoNewline [] lines (All-nil (λ byte. byte ≢ newline)) plain.0, plain.1)
plain-pieces_with_byte x [] rest false e plain = rw e (All-nil HasNoNewline, HasNoNewline-cons x rest e plain.1)
plain-pieces_with_byte x (line ∷ lines) rest false e plain =
    rw e (All-cons HasNoNewline (x ∷ line) lines (HasNoNewline-cons x line e (All-head HasNoNewline line lines plain.0)) (All-tail HasNoNewline line lines plain.0), plain.1)

pub lines_have_no_newline : LinesHaveNoNewline
lines_have_no_newline [] = (All-nil HasNoNewline, All-nil (λ byte. byte ≢ newline))
lines_have_no_newline (x ∷ xs) = plain-pieces_with_byte x (pieces_of xs).0 (pieces_of xs).1 (x == newline) refl (lines_have_no_newline xs)
