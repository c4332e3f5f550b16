-- Facts about a dialogue at the end of the input.
use Rattle.std.proofs.Common.{◌≡◌, ◌<◌, ℕ, suc, List, [], ◌∷◌, ◌++◌, length, take, true, false, IsSome, Option, Some, None, Result, Ok, Err, refl, ap, sym, subst, ◌∙◌, append-nil, length-append, arith}
use Rattle.std.specs.Prelude.{IfErr, MatchResult}
use Rattle.std.specs.Io.KnownBytes.{Appends}
use Rattle.road_format.specs.Cut.{newline, Pieces, pieces_of, last_line, lines_of}
use Rattle.road_format.specs.Replies.{Refused, reply}
use Rattle.road_format.specs.declared.refusal.Refusal.TheVariants as refusals
use Rattle.road_commands.specs.Laboratory.{Laboratory}
use Rattle.road_serve.specs.Answers.{first_reading, line_replies, answers, has_crowd, is_refusal, is_plan_refused, has_more_lines}
use Rattle.road_serve.specs.Dialogue.{IsAfterLines, Holds, Whole, TooLong, GoesOn, IsAfterBytes, IsAfterInput, HasAnswered, HasFinished, IsStopped}
use Rattle.road_serve.specs.Faults.{CountsGone}
use Rattle.road_serve.specs.StreamViews.{SinkView, Stops}
use Rattle.road_serve.specs.Dialogue.{Dialogue}
use Rattle.road_serve.specs.declared.faults.EarlyEnd.{EarlyEnd}
use Rattle.road_serve.specs.declared.faults.EarlyEnd.TheVariants as ends
use Rattle.road_serve.specs.declared.faults.ServeFault.{ServeFault}
use Rattle.road_serve.specs.declared.faults.ServeFault.TheVariants as faults
use Rattle.road_serve.proofs.CutBytes.{cut-newline}
use Rattle.road_serve.proofs.AnswersGrow.{few_lines, are_few, len_newline, refused_whole}
use Rattle.road_serve.proofs.DialogueSteps.{goes_on, after_same}
use Rattle.road_serve.proofs.DialogueCalls.{Put, stops_same, stops_memory, flush_ends}
use Rattle.road_serve.proofs.SinkTexts.{takes_same, takes_more, stops_after}

-- ---- the rest of the last line

has_rest : (held : Option (List ℕ)) (r : List ℕ) → Holds held r → (held ≡ Some [] → ⊥) → 0 < length r
has_rest held [] (Whole e l) some = absurd (some e)
has_rest held (x ∷ r) h some = omega arith
has_rest held [] (TooLong e l) some = omega arith

no_rest : (held : Option (List ℕ)) (r : List ℕ) → Holds held r → held ≡ Some [] → r ≡ []
no_rest held r (Whole e l) none = let same : Some r ≡ Some [] = sym e ∙ none in cc
no_rest held r (TooLong e l) none = absurd (cc)

one_last : (r : List ℕ) → 0 < length r → last_line true r ≡ r ∷ []
one_last [] some = absurd (omega arith)
one_last (x ∷ r) some = refl

-- ---- the rest is a line, as if a newline followed it

pub ended_line : (a : List ℕ) → 0 < length (pieces_of a).1 → lines_of a true ≡ (pieces_of a).0 ++ (pieces_of a).1 ∷ []
ended_line a some = ap (λ (p : List (List ℕ)). (pieces_of a).0 ++ p) (one_last (pieces_of a).1 some)

pub newline_lines : (a : List ℕ) → lines_of (a ++ newline ∷ []) false ≡ (pieces_of a).0 ++ (pieces_of a).1 ∷ []
newline_lines a = ap (λ (p : Pieces). p.0 ++ []) (cut-newline a) ∙ append-nil ((pieces_of a).0 ++ (pieces_of a).1 ∷ [])

replies_ended : (n : ℕ) (ls : List (List ℕ)) (r : List ℕ) → line_replies true (take (suc n) (ls ++ r ∷ [])) ≡ line_replies false (take (suc n) (ls ++ r ∷ []))
replies_ended n [] r = refl
replies_ended n (l ∷ ls) r = refl

pub answers_ended : (n : ℕ) (a : List ℕ) → 0 < length (pieces_of a).1 → answers n a true ≡ answers n (a ++ newline ∷ []) false
unfolding answers
answers_ended n a some =
    ap (λ (ls : List (List ℕ)). line_replies true (take (suc n) ls)) (ended_line a some) ∙ replies_ended n (pieces_of a).0 (pieces_of a).1
    ∙ ap (λ (ls : List (List ℕ)). line_replies false (take (suc n) ls)) (sym (newline_lines a))

refusal_ended : (ls : List (List ℕ)) (r : List ℕ) → is_refusal (first_reading true (ls ++ r ∷ [])) ≡ is_refusal (first_reading false (ls ++ r ∷ []))
refusal_ended [] r = refl
refusal_ended (l ∷ ls) r = refl

refused_ended : (a : List ℕ) → 0 < length (pieces_of a).1 → is_plan_refused a true ≡ is_plan_refused (a ++ newline ∷ []) false
unfolding is_plan_refused
refused_ended a some =
    ap (λ (ls : List (List ℕ)). is_refusal (first_reading true ls)) (ended_line a some) ∙ refusal_ended (pieces_of a).0 (pieces_of a).1
    ∙ ap (λ (ls : List (List ℕ)). is_refusal (first_reading false ls)) (sym (newline_lines a))

pub last_few : (n : ℕ) (a : List ℕ) → has_more_lines n a ≡ false → 0 < length (pieces_of a).1 → has_more_lines n (a ++ newline ∷ []) ≡ false
last_few n a few some =
    let count = ap (λ (ls : List (List ℕ)). length ls) (ended_line a some) in
    are_few n (a ++ newline ∷ []) (omega (arith, few_lines n a few, count, len_newline a, length-append (pieces_of a).0 ((pieces_of a).1 ∷ [])))

-- ---- the plan line was accepted

accepted_lines : (n : ℕ) (ls : List (List ℕ)) (lab : Option Laboratory) (left : ℕ) → IsAfterLines n ls lab left → 0 < length ls → is_refusal (first_reading true ls) ≡ false
accepted_lines n [] lab left after some = absurd (omega arith)
accepted_lines n (first ∷ later) None left after some = absurd after
accepted_lines n (first ∷ later) (Some kept) left after some = rw (after.1) refl

stands_accepted : (n : ℕ) (a : List ℕ) (d : Dialogue) (ls : List (List ℕ)) → lines_of a true ≡ ls → has_more_lines n a ≡ false → IsAfterLines n ls d.laboratory d.left → 0 < length ls → IsAfterInput n a d None
unfolding is_plan_refused
stands_accepted n a d ls e few after some =
    let Family : List (List ℕ) → Type 0 = λ x. IsAfterLines n x d.laboratory d.left in (
      ap (λ (x : List (List ℕ)). is_refusal (first_reading true x)) e ∙ accepted_lines n ls d.laboratory d.left after some,
      few,
      subst Family (sym e) after,
    )

stands_line : (n : ℕ) (a : List ℕ) (d : Dialogue) (o : Option EarlyEnd) → has_more_lines n a ≡ false → 0 < length (pieces_of a).1 → IsAfterBytes n (a ++ newline ∷ []) d o → IsAfterInput n a d o
stands_line n a d None few some on =
    let Family : List (List ℕ) → Type 0 = λ ls. IsAfterLines n ls d.laboratory d.left in
    let after = subst Family (ap (λ (p : Pieces). p.0) (cut-newline a)) on.after in
    stands_accepted n a d _ (ended_line a some) few after (omega (arith, length-append (pieces_of a).0 ((pieces_of a).1 ∷ [])))
stands_line n a d (Some ends.BadPlan) few some refused = (refused_ended a some ∙ refused.0, refused.1, refused.2)
stands_line n a d (Some ends.TooMany) few some many = let no = last_few n a few some in let yes_ = many.1 in absurd (cc)

pub rest_of : (n : ℕ) (a : List ℕ) (d : Dialogue) → GoesOn n a d → (d.line ≡ Some [] → ⊥) → 0 < length (pieces_of a).1
rest_of n a d on some = has_rest d.line (pieces_of a).1 on.holds some

pub line_finished : (n : ℕ) (a : List ℕ) (first sink : SinkView) (d : Dialogue) → has_more_lines n a ≡ false → 0 < length (pieces_of a).1 → HasAnswered n (a ++ newline ∷ []) first sink d → HasFinished n a first sink d
line_finished n a first sink d few some h = record {
  answered = takes_same first sink _ _ _ _ (sym (answers_ended n a some)) refl h.answered;
  well = h.well;
  stands = stands_line n a d d.over few some h.stands;
}

-- ---- nothing follows the last newline

clear_lines : (a : List ℕ) → (pieces_of a).1 ≡ [] → lines_of a true ≡ (pieces_of a).0
clear_lines a clear = ap (λ (r : List ℕ). (pieces_of a).0 ++ last_line true r) clear ∙ append-nil (pieces_of a).0

some_kept : (n : ℕ) (ls : List (List ℕ)) (lab : Option Laboratory) (left : ℕ) → IsAfterLines n ls lab left → IsSome lab → 0 < length ls
some_kept n ls None left after some = absurd (cc)
some_kept n [] (Some kept) left after some = absurd after
some_kept n (first ∷ later) (Some kept) left after some = omega arith

replies_clear : (n : ℕ) (ls : List (List ℕ)) → 0 < length ls → line_replies true (take (suc n) ls) ≡ line_replies false (take (suc n) ls)
replies_clear n [] some = absurd (omega arith)
replies_clear n (l ∷ ls) some = refl

answers_clear : (n : ℕ) (a : List ℕ) → (pieces_of a).1 ≡ [] → 0 < length (pieces_of a).0 → answers n a true ≡ answers n a false
unfolding answers
answers_clear n a clear some =
    ap (λ (ls : List (List ℕ)). line_replies true (take (suc n) ls)) (clear_lines a clear) ∙ replies_clear n (pieces_of a).0 some
    ∙ ap (λ (ls : List (List ℕ)). line_replies false (take (suc n) ls)) (sym (append-nil (pieces_of a).0))

pub clear_ends : (n : ℕ) (a : List ℕ) (first sink : SinkView) (d : Dialogue) → HasAnswered n a first sink d → d.over ≡ None → d.line ≡ Some [] → IsSome d.laboratory → HasFinished n a first sink d
clear_ends n a first sink d h none empty kept =
    let on = goes_on n a first sink d h none in
    let clear = no_rest d.line (pieces_of a).1 on.holds empty in
    let some = some_kept n (pieces_of a).0 d.laboratory d.left on.after kept in
    let Family : Option EarlyEnd → Type 0 = λ o. IsAfterInput n a d o in
    record {
      answered = takes_same first sink _ _ _ _ (sym (answers_clear n a clear some)) refl h.answered;
      well = h.well;
      stands = subst Family (sym none) (stands_accepted n a d (pieces_of a).0 (clear_lines a clear) on.few on.after some);
    }

-- ---- no line came

no_lines : (n : ℕ) (ls : List (List ℕ)) (lab : Option Laboratory) (left : ℕ) → IsAfterLines n ls lab left → lab ≡ None → ls ≡ []
no_lines n [] lab left after none = refl
no_lines n (first ∷ later) None left after none = absurd after
no_lines n (first ∷ later) (Some kept) left after none = absurd (cc)

all_left : (n : ℕ) (ls : List (List ℕ)) (lab : Option Laboratory) (left : ℕ) → IsAfterLines n ls lab left → lab ≡ None → left ≡ n
all_left n [] None left after none = after
all_left n [] (Some kept) left after none = absurd after
all_left n (first ∷ later) None left after none = absurd after
all_left n (first ∷ later) (Some kept) left after none = absurd (cc)

none_at_all : (a : List ℕ) → (pieces_of a).1 ≡ [] → (pieces_of a).0 ≡ [] → lines_of a true ≡ []
none_at_all a clear none = clear_lines a clear ∙ none

answers_none : (n : ℕ) (a : List ℕ) → lines_of a true ≡ [] → (pieces_of a).0 ≡ [] → answers n a true ≡ answers n a false ++ reply (Refused refusals.NoPlan)
unfolding answers
answers_none n a none whole =
    ap (λ (ls : List (List ℕ)). line_replies true (take (suc n) ls)) none
    ∙ ap (λ (ls : List (List ℕ)). line_replies false (take (suc n) (ls ++ [])) ++ reply (Refused refusals.NoPlan)) (sym whole)

refused_none : (a : List ℕ) → lines_of a true ≡ [] → is_plan_refused a true ≡ true
unfolding is_plan_refused
refused_none a none = ap (λ (ls : List (List ℕ)). is_refusal (first_reading true ls)) none

abbrev NoPlanFacts : ℕ → List ℕ → Type 0
NoPlanFacts n a = (answers n a true ≡ answers n a false ++ reply (Refused refusals.NoPlan)) × (is_plan_refused a true ≡ true)

no_plan_facts : (n : ℕ) (a : List ℕ) (d : Dialogue) → GoesOn n a d → d.line ≡ Some [] → d.laboratory ≡ None → NoPlanFacts n a
no_plan_facts n a d on empty kept =
    let clear = no_rest d.line (pieces_of a).1 on.holds empty in
    let whole = no_lines n (pieces_of a).0 d.laboratory d.left on.after kept in
    let none = none_at_all a clear whole in
    (answers_none n a none whole, refused_none a none)

pub no_plan_ends : (n : ℕ) (a text all : List ℕ) (first sink sink' : SinkView) (d d' : Dialogue) (r : Result (Unit {0}) ServeFault) (count later : ℕ) → HasAnswered n a first sink d → d.over ≡ None → d.line ≡ Some [] → d.laboratory ≡ None
    → text ≡ reply (Refused refusals.NoPlan) → all ≡ d.waiting ++ text → Put sink sink' all d'.waiting r → d'.over ≡ Some ends.BadPlan → d'.laboratory ≡ d.laboratory → d'.left ≡ d.left
    → IfErr r (λ fault. CountsGone fault (has_crowd n a true) count later) → MatchResult r (λ _. HasFinished n a first sink' d') (λ fault. IsStopped n a true first sink' fault count later)
no_plan_ends n a text all first sink sink' d d' (Ok done) count later h none empty kept says e put over lab left counts =
    let f = no_plan_facts n a d (goes_on n a first sink d h none) empty kept in
    let Family : Option EarlyEnd → Type 0 = λ o. IsAfterInput n a d' o in
    record {
      answered = takes_same first sink' _ _ _ _ (ap (λ (t : List ℕ). answers n a false ++ t) says ∙ sym f.0) refl
          (takes_more first sink sink' (answers n a false) d.waiting text d'.waiting h.answered (takes_same sink sink' all _ _ _ e refl put.0));
      well = put.1 ∙ h.well;
      stands = subst Family (sym over) (f.1, lab ∙ kept, left ∙ all_left n (pieces_of a).0 d.laboratory d.left (goes_on n a first sink d h none).after kept);
    }
no_plan_ends n a text all first sink sink' d d' (Err fault) count later h none empty kept says e put over lab left counts =
    let f = no_plan_facts n a d (goes_on n a first sink d h none) empty kept in
    record {
      stops = stops_same first sink' _ _ fault (ap (λ (t : List ℕ). answers n a false ++ t) says ∙ sym f.0)
          (stops_after first sink sink' (answers n a false) d.waiting text fault h.answered h.well (stops_same sink sink' all _ fault e put.2));
      counts = counts;
    }

-- ---- the waiting replies are flushed

stands_end_same : (n : ℕ) (a : List ℕ) (d d' : Dialogue) (o : Option EarlyEnd) → d'.laboratory ≡ d.laboratory → d'.left ≡ d.left → IsAfterInput n a d o → IsAfterInput n a d' o
stands_end_same n a d d' None lab left s = (s.0, s.1, after_same n _ _ d.laboratory d'.laboratory d.left d'.left refl (sym lab) (sym left) s.2)
stands_end_same n a d d' (Some ends.BadPlan) lab left s = (s.0, lab ∙ s.1, left ∙ s.2)
stands_end_same n a d d' (Some ends.TooMany) lab left s = s

pub finished_flushed : (n : ℕ) (a : List ℕ) (first sink sink' : SinkView) (d d' : Dialogue) → HasFinished n a first sink d → Appends sink.contents sink'.contents d.waiting → sink'.failures ≡ sink.failures → d'.waiting ≡ []
    → d'.laboratory ≡ d.laboratory → d'.left ≡ d.left → d'.over ≡ d.over → HasFinished n a first sink' d'
finished_flushed n a first sink sink' d d' h all well none lab left over =
    let Family : Option EarlyEnd → Type 0 = λ o. IsAfterInput n a d' o in
    record {
      answered = flush_ends first sink sink' (answers n a true) d.waiting d'.waiting h.answered all none;
      well = well ∙ h.well;
      stands = subst Family (sym over) (stands_end_same n a d d' d.over lab left h.stands);
    }

-- ---- memory ran out

pub memory_at_end : (n : ℕ) (a : List ℕ) (first sink : SinkView) (d : Dialogue) → HasAnswered n a first sink d → Stops first sink (answers n a true) faults.OutOfMemory
memory_at_end n a first sink d h = stops_same first sink _ _ faults.OutOfMemory (ap (λ (x : List ℕ). answers n x true) (append-nil a)) (stops_memory n a [] true first sink d h)

-- ---- a dialogue that goes on has not refused a plan line

refused_after : (n : ℕ) (ls : List (List ℕ)) (lab : Option Laboratory) (left : ℕ) → IsAfterLines n ls lab left → is_refusal (first_reading false ls) ≡ false
refused_after n [] lab left after = refl
refused_after n (first ∷ later) None left after = absurd after
refused_after n (first ∷ later) (Some kept) left after = rw (after.1) refl

pub going_accepted : (n : ℕ) (a : List ℕ) (d : Dialogue) → GoesOn n a d → is_plan_refused a false ≡ false
going_accepted n a d on = refused_whole a ∙ refused_after n (pieces_of a).0 d.laboratory d.left on.after
