-- Pieces of a list of bytes.
use Rattle.std.proofs.Common.{◌≡◌, ◌≤◌, ℕ, ◌+◌, ◌-◌, List, [], ◌++◌, length, take, drop, ap, sym, ◌∙◌, arith, length-drop, take-append-drop}
use Rattle.std.proofs.Math.Seq.{take-append_seam}
use Rattle.std.proofs.lemmas.List.{length-take, take_all, nil_from_length, drop-drop}

-- the bytes copied from place p to the front of a piece are the next bytes
pub read_next : (p n : ℕ) (bytes copied behind : List ℕ) → copied ≡ take ((p + n) - p) (drop p bytes) → p + n ≤ length bytes → drop p bytes ≡ take n (copied ++ behind) ++ drop (p + n) bytes
read_next p n bytes copied behind is fits =
    let count : (p + n) - p ≡ n = omega arith in
    let next : copied ≡ take n (drop p bytes) = rw count at is in
    let long : length copied ≡ n = rw next (omega (arith, length-take n (drop p bytes), length-drop p bytes)) in
    let front : take n (copied ++ behind) ≡ copied = ap (λ (k : ℕ). take k (copied ++ behind)) (sym long) ∙ take-append_seam copied behind in
    sym (take-append-drop n (drop p bytes)) ∙ ap (λ (xs : List ℕ). xs ++ drop n (drop p bytes)) (sym (front ∙ next)) ∙ ap (λ (xs : List ℕ). take n (copied ++ behind) ++ xs) (drop-drop n p bytes)

-- the slice from a place on is the rest after the place
pub from_place : (p : ℕ) (bytes : List ℕ) → take (length bytes - p) (drop p bytes) ≡ drop p bytes
from_place p bytes = take_all (length bytes - p) (drop p bytes) (omega (arith, length-drop p bytes))

-- nothing is left after the last byte
pub nothing_left : (p : ℕ) (bytes : List ℕ) → length bytes ≤ p → drop p bytes ≡ []
nothing_left p bytes end = nil_from_length (drop p bytes) (omega (arith, length-drop p bytes))
