-- The answers so far stay the same as more bytes come.
use Rattle.std.proofs.Common.{◌≡◌, ◌≤◌, ◌<◌, ◌==◌, ℕ, zero, suc, List, [], ◌∷◌, ◌++◌, length, take, Bool, true, false, Some, Result, Ok, Err, refl, ap, sym, ◌∙◌, append_assoc, append-nil, length-append, arith}
use Rattle.std.proofs.lemmas.Bool.{ltb-true, ltb-false, lt-ltb, le-ltb}
use Rattle.std.proofs.lemmas.List.{take_all}
use Rattle.road_format.specs.Cut.{newline, Pieces, pieces_with_byte, pieces_of, last_line, lines_of}
use Rattle.road_format.specs.PlanGrammar.{PlanLine}
use Rattle.road_format.specs.Replies.{reply}
use Rattle.road_format.specs.declared.refusal.Refusal.{Refusal}
use Rattle.road_format.proofs.CutLines.{lines_go_on, pieces_of-append}
use Rattle.road_commands.specs.Laboratory.{Laboratory, opening_laboratory}
use Rattle.road_serve.specs.Answers.{plan_reading, command_reading, opening_answer, line_answer, laboratory_after_line, later_replies, input_replies, first_reading, line_replies, answers, ends_within, answers_within, is_refusal, is_plan_refused, has_more_lines}
use Rattle.road_serve.specs.Laws.{AnswersGoOn}
use Rattle.road_serve.proofs.CutBytes.{IsLine, cut-more, cut-newline}

-- ---- the answers to a prefix of the bytes are a prefix of the answers

pub take_front : {A : Type 0} (n : ℕ) (a b : List A) → (more : List A) × (take n (a ++ b) ≡ take n a ++ more)
take_front zero a b = ([], refl)
take_front (suc n) [] b = (take (suc n) b, refl)
take_front {A = A} (suc n) (x ∷ a) b = let t = take_front n a b in (t.0, ap (λ (l : List A). x ∷ l) t.1)

later_front : (lab : Laboratory) (a b : List (List ℕ)) → (rest : List ℕ) × (later_replies lab (a ++ b) ≡ later_replies lab a ++ rest)
unfolding later_replies
later_front lab [] b = (later_replies lab b, refl)
later_front lab (l ∷ a) b =
    let after = laboratory_after_line lab (command_reading l) in
    let t = later_front after a b in
    let one = reply (line_answer lab (command_reading l)) in
    (t.0, ap (λ (x : List ℕ). one ++ x) t.1 ∙ sym (append_assoc one (later_replies after a) t.0))

session_front : (reading : Result PlanLine Refusal) (a b : List (List ℕ)) → (rest : List ℕ) × (input_replies reading (a ++ b) ≡ input_replies reading a ++ rest)
session_front (Err refusal) a b = ([], sym (append-nil (reply (opening_answer (Err refusal)))))
session_front (Ok plan) a b =
    let lab = opening_laboratory plan in
    let t = later_front lab a b in
    let one = reply (opening_answer (Ok plan)) in
    (t.0, ap (λ (x : List ℕ). one ++ x) t.1 ∙ sym (append_assoc one (later_replies lab a) t.0))

lines_front : (ended : Bool) (a b : List (List ℕ)) → (rest : List ℕ) × (line_replies ended (a ++ b) ≡ line_replies false a ++ rest)
lines_front ended [] b = (line_replies ended b, refl)
lines_front ended (l ∷ a) b = session_front (plan_reading l) a b

pub answers_more : (n : ℕ) (a b : List ℕ) (ended : Bool) → (rest : List ℕ) × (answers n (a ++ b) ended ≡ answers n a false ++ rest)
unfolding answers
answers_more n a b ended =
    let q = lines_go_on a b ended in
    let u = take_front (suc n) (lines_of a false) q.0 in
    let w = lines_front ended (take (suc n) (lines_of a false)) u.0 in
    (w.0, ap (λ (ls : List (List ℕ)). line_replies ended (take (suc n) ls)) q.1 ∙ ap (line_replies ended) u.1 ∙ w.1)

pub answers_go_on : AnswersGoOn
unfolding answers_within
answers_go_on lines limit first more ended =
    let e = ends_within limit (first ++ more) ended in
    let t = take_front limit first more in
    let w = answers_more lines (take limit first) t.0 e in
    (w.0, ap (λ (xs : List ℕ). answers lines xs e) t.1 ∙ w.1)

-- ---- the count of lines

pub few_lines : (n : ℕ) (a : List ℕ) → has_more_lines n a ≡ false → length (lines_of a true) ≤ suc n
unfolding has_more_lines
few_lines n a few = ltb-false (suc n) (length (lines_of a true)) few

pub are_few : (n : ℕ) (a : List ℕ) → length (lines_of a true) ≤ suc n → has_more_lines n a ≡ false
unfolding has_more_lines
are_few n a few = le-ltb (suc n) (length (lines_of a true)) few

pub many_lines : (n : ℕ) (a : List ℕ) → has_more_lines n a ≡ true → suc n < length (lines_of a true)
unfolding has_more_lines
many_lines n a many = ltb-true (suc n) (length (lines_of a true)) many

pub are_many : (n : ℕ) (a : List ℕ) → suc n < length (lines_of a true) → has_more_lines n a ≡ true
unfolding has_more_lines
are_many n a many = lt-ltb (suc n) (length (lines_of a true)) many

-- a last piece is at most one line, and no line if it is empty
pub last_len : (r : List ℕ) → length (last_line true r) ≤ 1
last_len [] = omega arith
last_len (x ∷ r) = omega arith

some_at : (x : ℕ) (p : Pieces) (t : Bool) → (x == newline) ≡ t → 0 < length ((pieces_with_byte x p).0 ++ last_line true (pieces_with_byte x p).1)
some_at x p true e = rw e (omega arith)
some_at x ([], rest) false e = rw e (omega arith)
some_at x (line ∷ lines, rest) false e = rw e (omega arith)

some_line : (x : ℕ) (b : List ℕ) → 0 < length (lines_of (x ∷ b) true)
some_line x b = some_at x (pieces_of b) (x == newline) refl

-- the lines of bytes, followed by the lines of their last piece with the bytes after them
pub lines-append : (a b : List ℕ) (ended : Bool) → lines_of (a ++ b) ended ≡ (pieces_of a).0 ++ lines_of ((pieces_of a).1 ++ b) ended
lines-append a b ended =
    let after : Pieces = pieces_of ((pieces_of a).1 ++ b) in
    ap (λ (p : Pieces). p.0 ++ last_line ended p.1) (pieces_of-append a b) ∙ append_assoc (pieces_of a).0 after.0 (last_line ended after.1)

at_least : (r b : List ℕ) → length (last_line true r) ≤ length (lines_of (r ++ b) true)
at_least [] b = omega arith
at_least (x ∷ r) b = let some = some_line x (r ++ b) in omega arith

pub lines_rise : (a b : List ℕ) → length (lines_of a true) ≤ length (lines_of (a ++ b) true)
lines_rise a b =
    let least = at_least (pieces_of a).1 b in
    let all = ap (λ (ls : List (List ℕ)). length ls) (lines-append a b true) in
    omega (arith, least, all, length-append (pieces_of a).0 (last_line true (pieces_of a).1), length-append (pieces_of a).0 (lines_of ((pieces_of a).1 ++ b) true))

-- ---- only lines that have ended are answered

pub answers_few : (n : ℕ) (a : List ℕ) → length (pieces_of a).0 ≤ suc n → answers n a false ≡ line_replies false (pieces_of a).0
unfolding answers
answers_few n a few = ap (λ (ls : List (List ℕ)). line_replies false (take (suc n) ls)) (append-nil (pieces_of a).0) ∙ ap (line_replies false) (take_all (suc n) (pieces_of a).0 few)

pub whole_few : (n : ℕ) (a : List ℕ) → has_more_lines n a ≡ false → length (pieces_of a).0 ≤ suc n
whole_few n a few = omega (arith, few_lines n a few, length-append (pieces_of a).0 (last_line true (pieces_of a).1))

-- bytes of a line that has not ended add no answer
pub answers_line : (n : ℕ) (a b : List ℕ) → IsLine b → answers n (a ++ b) false ≡ answers n a false
unfolding answers
answers_line n a b line = ap (λ (p : Pieces). line_replies false (take (suc n) (p.0 ++ []))) (cut-more a b line)

take_more : {A : Type 0} (n : ℕ) (a b : List A) → n ≤ length a → take n (a ++ b) ≡ take n a
take_more zero a b few = refl
take_more (suc n) [] b few = absurd (omega arith)
take_more {A = A} (suc n) (x ∷ a) b few = ap (λ (l : List A). x ∷ l) (take_more n a b (omega arith))

-- if all lines that are allowed have ended, more bytes add no line,
pub lines_full : (n : ℕ) (a b : List ℕ) → suc n ≤ length (pieces_of a).0 → take (suc n) (lines_of (a ++ b) false) ≡ take (suc n) (pieces_of a).0
lines_full n a b full = ap (take (suc n)) (lines-append a b false) ∙ take_more (suc n) (pieces_of a).0 (lines_of ((pieces_of a).1 ++ b) false) full

-- the lines of an input that goes on are those that have ended
pub lines_whole : (n : ℕ) (a : List ℕ) → take (suc n) (lines_of a false) ≡ take (suc n) (pieces_of a).0
lines_whole n a = ap (take (suc n)) (append-nil (pieces_of a).0)

-- so more bytes add no answer
pub answers_full : (n : ℕ) (a b : List ℕ) → suc n ≤ length (pieces_of a).0 → answers n (a ++ b) false ≡ answers n a false
unfolding answers
answers_full n a b full = ap (line_replies false) (lines_full n a b full ∙ sym (lines_whole n a))

-- ---- the reading of the plan line stays the same

refused_lines : (ls rest : List (List ℕ)) (ended : Bool) (b : Bool) → 0 < length ls → is_refusal (first_reading false ls) ≡ b → is_refusal (first_reading ended (ls ++ rest)) ≡ b
refused_lines [] rest ended b some is = absurd (omega arith)
refused_lines (l ∷ ls) rest ended b some is = is

pub refused_stays : (a b : List ℕ) (ended answer : Bool) → 0 < length (pieces_of a).0 → is_plan_refused a false ≡ answer → is_plan_refused (a ++ b) ended ≡ answer
unfolding is_plan_refused
refused_stays a b ended answer some is =
    let whole = append-nil (pieces_of a).0 in
    ap (λ (ls : List (List ℕ)). is_refusal (first_reading ended ls)) (lines-append a b ended)
    ∙ refused_lines (pieces_of a).0 (lines_of ((pieces_of a).1 ++ b) ended) ended answer some (ap (λ (ls : List (List ℕ)). is_refusal (first_reading false ls)) (sym whole) ∙ is)

some_refused : (ls : List (List ℕ)) → is_refusal (first_reading false ls) ≡ true → 0 < length ls
some_refused [] is = absurd (cc)
some_refused (l ∷ ls) is = omega arith

-- a plan line that is refused has ended
pub refused_some : (a : List ℕ) → is_plan_refused a false ≡ true → 0 < length (pieces_of a).0
unfolding is_plan_refused
refused_some a is = some_refused (pieces_of a).0 (ap (λ (ls : List (List ℕ)). is_refusal (first_reading false ls)) (sym (append-nil (pieces_of a).0)) ∙ is)

alone : (reading : Result PlanLine Refusal) (ls ls' : List (List ℕ)) → is_refusal (Some reading) ≡ true → input_replies reading ls ≡ input_replies reading ls'
alone (Err refusal) ls ls' is = refl
alone (Ok plan) ls ls' is = absurd (cc)

alone_lines : (n : ℕ) (ls rest : List (List ℕ)) (ended : Bool) → is_refusal (first_reading false ls) ≡ true → line_replies ended (take (suc n) (ls ++ rest)) ≡ line_replies false (take (suc n) ls)
alone_lines n [] rest ended is = absurd (cc)
alone_lines n (l ∷ ls) rest ended is = alone (plan_reading l) (take n (ls ++ rest)) (take n ls) is

-- after a refused plan line nothing more is answered
pub answers_refused : (n : ℕ) (a b : List ℕ) (ended : Bool) → is_plan_refused a false ≡ true → answers n (a ++ b) ended ≡ answers n a false
unfolding answers is_plan_refused
answers_refused n a b ended is =
    let q = lines_go_on a b ended in
    ap (λ (ls : List (List ℕ)). line_replies ended (take (suc n) ls)) q.1 ∙ alone_lines n (lines_of a false) q.0 ended is

-- whether the plan line is refused depends only on the lines that have ended
pub refused_whole : (a : List ℕ) → is_plan_refused a false ≡ is_refusal (first_reading false (pieces_of a).0)
unfolding is_plan_refused
refused_whole a = ap (λ (ls : List (List ℕ)). is_refusal (first_reading false ls)) (append-nil (pieces_of a).0)

-- ---- lines after those that have ended

-- more bytes are at least one more line
pub some_lines : (r b : List ℕ) → 0 < length b → 0 < length (lines_of (r ++ b) true)
some_lines [] [] some = absurd (omega arith)
some_lines [] (x ∷ b) some = some_line x b
some_lines (y ∷ r) b some = some_line y (r ++ b)

pub len_line : (a b : List ℕ) → IsLine b → length (lines_of (a ++ b) true) ≤ suc (length (pieces_of a).0)
len_line a b line =
    let same = ap (λ (p : Pieces). length (p.0 ++ last_line true p.1)) (cut-more a b line) in
    let last = last_len ((pieces_of a).1 ++ b) in
    omega (arith, same, last, length-append (pieces_of a).0 (last_line true ((pieces_of a).1 ++ b)))

pub len_newline : (a : List ℕ) → length (lines_of (a ++ newline ∷ []) true) ≡ suc (length (pieces_of a).0)
len_newline a =
    let same = ap (λ (p : Pieces). length (p.0 ++ last_line true p.1)) (cut-newline a) in
    omega (arith, same, length-append ((pieces_of a).0 ++ (pieces_of a).1 ∷ []) [], length-append (pieces_of a).0 ((pieces_of a).1 ∷ []))
