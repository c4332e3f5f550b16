-- Prefixes of a list, and the items at their places.
use Rattle.std.proofs.Common.{◌≡◌, ◌∙◌, ◌≤◌, ◌<◌, ⊎_elim, Bool, true, false, leb, ℕ, zero, suc, List, [], ◌∷◌, ◌++◌, length, length-append, slice_get, Some, append_assoc, refl, sym, ap, subst, arith}
use Rattle.std.proofs.lemmas.Bool.Decides.{leb_tells}
use Rattle.std.proofs.lemmas.List.{append-nil}
use Rattle.std.specs.Prelude.{MatchBool}
use Rattle.std.specs.List.{AllByRecursion}
use mathlib.Core.List.{IsPrefix}
use Rattle.road_sessions.specs.Journals.{Write, AreInJournal}
use Rattle.road_sessions.specs.declared.entry.Entry.{Entry}

pub prefix_of_itself : {A : Type 0} (xs : List A) → IsPrefix xs xs
prefix_of_itself xs = ([], append-nil xs)

pub prefix_of_longer : {A : Type 0} (xs ys zs : List A) → IsPrefix xs ys → IsPrefix ys zs → IsPrefix xs zs
prefix_of_longer xs ys zs p q =
    let there : (xs ++ p.0) ++ q.0 ≡ zs = ap (λ (w : List _). w ++ q.0) p.1 ∙ q.1 in
    (p.0 ++ q.0, sym (append_assoc xs p.0 q.0) ∙ there)

-- of two prefixes of a list, one that is at most as long as the other is a prefix of it
pub prefix_of_other : {A : Type 0} (xs ys all : List A) → length xs ≤ length ys → IsPrefix xs all → IsPrefix ys all → IsPrefix xs ys
prefix_of_other [] ys all short p q = (ys, refl)
prefix_of_other (x ∷ xs) [] all short p q = absurd (omega arith)
prefix_of_other (x ∷ xs) (y ∷ ys) [] short p q = absurd (cc (p.1))
prefix_of_other (x ∷ xs) (y ∷ ys) (z ∷ all) short p q =
    let tails = prefix_of_other xs ys all (omega arith) (p.0, cc (p.1)) (q.0, cc (q.1)) in
    let first : x ≡ y = cc (p.1, q.1) in
    (tails.0, cc (first, tails.1))

-- the same, given the result of comparing their lengths
pub prefix_as_compared : {A : Type 0} (xs ys all : List A) (m n : ℕ) → m ≡ length xs → n ≡ length ys → IsPrefix xs all → IsPrefix ys all → MatchBool (leb m n) (IsPrefix xs ys) (IsPrefix ys xs)
prefix_as_compared xs ys all m n is has p q = ⊎_elim
    (λ (short : (leb m n ≡ true) × (m ≤ n)). subst (λ (b : Bool). MatchBool b (IsPrefix xs ys) (IsPrefix ys xs)) (sym short.0) (let le = short.1 in prefix_of_other xs ys all (omega arith) p q))
    (λ (long : (leb m n ≡ false) × (n < m)). subst (λ (b : Bool). MatchBool b (IsPrefix xs ys) (IsPrefix ys xs)) (sym long.0) (let lt = long.1 in prefix_of_other ys xs all (omega arith) q p))
    (leb_tells m n)

no_more : {A : Type 0} (xs rest : List A) → length (xs ++ rest) ≤ length xs → rest ≡ []
no_more xs [] short = refl
no_more xs (r ∷ rest) short = absurd (omega (arith, length-append xs (r ∷ rest)))

-- a prefix as long as the whole list is the whole list
pub whole_prefix : {A : Type 0} (xs all : List A) → length all ≤ length xs → IsPrefix xs all → xs ≡ all
whole_prefix xs all short p =
    let none = no_more xs p.0 (subst (λ (w : List _). length w ≤ length xs) (sym p.1) short) in
    sym (append-nil xs) ∙ ap (λ (w : List _). xs ++ w) (sym none) ∙ p.1

got_later : {A : Type 0} (xs rest : List A) (place : ℕ) (x : A) → slice_get xs place ≡ Some x → slice_get (xs ++ rest) place ≡ Some x
got_later [] rest place x got = absurd cc
got_later (y ∷ xs) rest zero x got = got
got_later (y ∷ xs) rest (suc place) x got = got_later xs rest place x got

pub got_last : {A : Type 0} (xs : List A) (x : A) → slice_get (xs ++ x ∷ []) (length xs) ≡ Some x
got_last [] x = refl
got_last (y ∷ xs) x = got_last xs x

pub each_of_both : {A : Type 0} (P : A → Type 0) (xs ys : List A) → AllByRecursion P xs → AllByRecursion P ys → AllByRecursion P (xs ++ ys)
each_of_both P [] ys first second = second
each_of_both P (x ∷ xs) ys first second = (first.0, each_of_both P xs ys first.1 second)

-- an item at a place of a prefix is at this place of the whole list
pub in_longer_journal : (writes : List Write) (xs all : List Entry) → IsPrefix xs all → AreInJournal writes xs → AreInJournal writes all
in_longer_journal [] xs all p stand = tt
in_longer_journal (w ∷ ws) xs all p stand =
    (subst (λ (l : List Entry). slice_get l w.0 ≡ Some w.1) p.1 (got_later xs p.0 w.0 w.1 stand.0), in_longer_journal ws xs all p stand.1)
