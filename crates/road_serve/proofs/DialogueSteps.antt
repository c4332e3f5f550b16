-- Facts about a dialogue as bytes come.
use Rattle.std.proofs.Common.{◌≡◌, ◌≢◌, ◌≤◌, ◌<◌, ◌-◌, ℕ, zero, suc, List, [], ◌∷◌, ◌++◌, length, true, false, IsSome, Option, Some, None, refl, ap, sym, subst, ◌∙◌, length-append, arith}
use Rattle.std.proofs.lemmas.List.{take_all}
use Rattle.road_format.specs.Cut.{newline, Pieces, pieces_of, last_line, lines_of}
use Rattle.road_format.specs.CommandGrammar.{command_of}
use Rattle.road_format.specs.PlanGrammar.{plan_line_of}
use Rattle.road_format.specs.Replies.{reply}
use Rattle.road_commands.specs.Laboratory.{Laboratory}
use Rattle.road_serve.specs.Answers.{opening_answer, line_answer, first_reading, line_replies, answers, is_refusal, is_plan_refused, has_more_lines}
use Rattle.road_serve.specs.Dialogue.{IsAfterLines, Holds, GoesOn, IsAfterBytes, HasAnswered}
use Rattle.road_serve.specs.Private.KeptLaboratory.{kept_after_line, opened_laboratory}
use Rattle.road_serve.specs.Private.Readings.{read_held}
use Rattle.road_serve.specs.StreamViews.{SinkView}
use Rattle.road_serve.specs.Dialogue.{Dialogue}
use Rattle.road_serve.specs.declared.faults.EarlyEnd.{EarlyEnd}
use Rattle.road_serve.specs.declared.faults.EarlyEnd.TheVariants as ends
use Rattle.road_serve.proofs.CutBytes.{IsLine, cut-more, cut-newline}
use Rattle.road_serve.proofs.LineReplies.{no_bytes, later_replied, later_kept, opening_replied, opened_after, opening_refused}
use Rattle.road_serve.proofs.AnswersGrow.{few_lines, are_few, many_lines, are_many, last_len, lines-append, lines_rise, answers_few, whole_few, answers_line, lines_full, lines_whole, answers_full, refused_stays, refused_some, answers_refused, refused_whole, some_lines, len_line, len_newline}
use Rattle.road_serve.proofs.SinkTexts.{takes_none, takes_same}

pub after_same : (n : ℕ) (ls ls' : List (List ℕ)) (lab lab' : Option Laboratory) (left left' : ℕ) → ls ≡ ls' → lab ≡ lab' → left ≡ left' → IsAfterLines n ls lab left → IsAfterLines n ls' lab' left'
after_same n ls ls' lab lab' left left' e f g h =
    let Lines : List (List ℕ) → Type 0 = λ x. IsAfterLines n x lab left in
    let Keepers : Option Laboratory → Type 0 = λ x. IsAfterLines n ls' x left in
    let Lefts : ℕ → Type 0 = λ x. IsAfterLines n ls' lab' x in
    subst Lefts g (subst Keepers f (subst Lines e h))

-- ---- if the dialogue is over, further bytes change nothing

stands_over : (n : ℕ) (a b : List ℕ) (d : Dialogue) (o : Option EarlyEnd) → IsSome o → IsAfterBytes n a d o → IsAfterBytes n (a ++ b) d o × (answers n (a ++ b) false ≡ answers n a false)
stands_over n a b d None some s = absurd (cc)
stands_over n a b d (Some ends.BadPlan) some s = ((refused_stays a b false true (refused_some a s.0) s.0, s.1, s.2), answers_refused n a b false s.0)
stands_over n a b d (Some ends.TooMany) some s =
    let many = many_lines n a s.1 in
    let last = last_len (pieces_of a).1 in
    let rise = lines_rise a b in
    let all = length-append (pieces_of a).0 (last_line true (pieces_of a).1) in
    let same = lines_whole n a ∙ sym (lines_full n a b (omega arith)) in (
      (
        refused_stays a b false false (omega arith) s.0,
        are_many n (a ++ b) (omega arith),
        after_same n _ _ d.laboratory d.laboratory d.left d.left same refl refl s.2,
      ),
      answers_full n a b (omega arith),
    )

pub over_more : (n : ℕ) (a b : List ℕ) (first sink : SinkView) (d : Dialogue) → HasAnswered n a first sink d → IsSome d.over → HasAnswered n (a ++ b) first sink d
over_more n a b first sink d h some =
    let s = stands_over n a b d d.over some h.stands in
    record { answered = takes_same first sink _ _ d.waiting d.waiting (sym s.1) refl h.answered; well = h.well; stands = s.0 }

-- ---- the dialogue goes on

pub goes_on : (n : ℕ) (a : List ℕ) (first sink : SinkView) (d : Dialogue) → HasAnswered n a first sink d → d.over ≡ None → GoesOn n a d
goes_on n a first sink d h none =
    let Family : Option EarlyEnd → Type 0 = λ o. IsAfterBytes n a d o in
    subst Family none h.stands

pub stands_on : (n : ℕ) (a : List ℕ) (d : Dialogue) → d.over ≡ None → GoesOn n a d → IsAfterBytes n a d d.over
stands_on n a d none on =
    let Family : Option EarlyEnd → Type 0 = λ o. IsAfterBytes n a d o in
    subst Family (sym none) on

-- ---- the first byte past the last line that is allowed

abbrev Full : ℕ → List (List ℕ) → Type 0
Full n ls = (length ls ≡ suc n) × (is_refusal (first_reading false ls) ≡ false)

accepted_full : (n : ℕ) (ls : List (List ℕ)) (lab : Option Laboratory) (left : ℕ) → IsAfterLines n ls lab left → IsSome lab → left ≡ 0 → Full n ls
accepted_full n ls None left after some none = absurd (cc)
accepted_full n [] (Some kept) left after some none = absurd after
accepted_full n (first ∷ later) (Some kept) left after some none = (omega (arith, after.3), rw (after.1) refl)

pub full_more : (n : ℕ) (a b : List ℕ) (first sink : SinkView) (d d' : Dialogue) → HasAnswered n a first sink d → d.over ≡ None → IsSome d.laboratory → d.left ≡ 0 → 0 < length b
    → d'.over ≡ Some ends.TooMany → d'.waiting ≡ d.waiting → d'.laboratory ≡ d.laboratory → d'.left ≡ d.left → HasAnswered n (a ++ b) first sink d'
full_more n a b first sink d d' h none some spent more over waits lab left =
    let g = goes_on n a first sink d h none in
    let f = accepted_full n (pieces_of a).0 d.laboratory d.left g.after some spent in
    let one = some_lines (pieces_of a).1 b more in
    let all = ap (λ (ls : List (List ℕ)). length ls) (lines-append a b true) in
    let refused = refused_stays a b false false (omega (arith, f.0)) (refused_whole a ∙ f.1) in
    let many = are_many n (a ++ b) (omega (arith, f.0, one, all, length-append (pieces_of a).0 (lines_of ((pieces_of a).1 ++ b) true))) in
    let same = answers_full n a b (omega (arith, f.0)) in
    let lines = sym (lines_full n a b (omega (arith, f.0)) ∙ take_all (suc n) (pieces_of a).0 (omega (arith, f.0))) in
    let Family : Option EarlyEnd → Type 0 = λ o. IsAfterBytes n (a ++ b) d' o in
    record {
      answered = takes_same first sink _ _ _ _ (sym same) (sym waits) h.answered;
      well = h.well;
      stands = subst Family (sym over) (refused, many, after_same n _ _ d.laboratory d'.laboratory d.left d'.left lines (sym lab) (sym left) g.after);
    }

-- ---- bytes of a line

some_room : (n : ℕ) (ls : List (List ℕ)) (lab : Option Laboratory) (left : ℕ) → IsAfterLines n ls lab left → (IsSome lab → left ≡ 0 → ⊥) → length ls ≤ n
some_room n [] None left after open_ = omega arith
some_room n [] (Some kept) left after open_ = absurd after
some_room n (first ∷ later) None left after open_ = absurd after
some_room n (first ∷ later) (Some kept) zero after open_ = absurd (open_ refl refl)
some_room n (first ∷ later) (Some kept) (suc left) after open_ = omega (arith, after.3)

pub room_line : (n : ℕ) (a b : List ℕ) (d : Dialogue) → GoesOn n a d → (IsSome d.laboratory → d.left ≡ 0 → ⊥) → IsLine b → has_more_lines n (a ++ b) ≡ false
room_line n a b d g open_ line =
    let room = some_room n (pieces_of a).0 d.laboratory d.left g.after open_ in
    are_few n (a ++ b) (omega (arith, room, len_line a b line))

pub room_newline : (n : ℕ) (a b : List ℕ) (d : Dialogue) → GoesOn n a d → (IsSome d.laboratory → d.left ≡ 0 → ⊥) → IsLine b → has_more_lines n ((a ++ b) ++ newline ∷ []) ≡ false
room_newline n a b d g open_ line =
    let room = some_room n (pieces_of a).0 d.laboratory d.left g.after open_ in
    let same = ap (λ (p : Pieces). length p.0) (cut-more a b line) in
    are_few n ((a ++ b) ++ newline ∷ []) (omega (arith, room, same, len_newline (a ++ b)))

holds_same : (held : Option (List ℕ)) (line line' : List ℕ) → line ≡ line' → Holds held line → Holds held line'
holds_same held line line' e h = let Family : List ℕ → Type 0 = λ x. Holds held x in subst Family e h

pub held_more : (n : ℕ) (a b : List ℕ) (first sink : SinkView) (d d' : Dialogue) → HasAnswered n a first sink d → d.over ≡ None → has_more_lines n (a ++ b) ≡ false → IsLine b
    → d'.laboratory ≡ d.laboratory → d'.left ≡ d.left → d'.waiting ≡ d.waiting → d'.over ≡ d.over → Holds d'.line ((pieces_of a).1 ++ b) → HasAnswered n (a ++ b) first sink d'
held_more n a b first sink d d' h none few line lab left waits over holds =
    let g = goes_on n a first sink d h none in
    let c = cut-more a b line in
    let on : GoesOn n (a ++ b) d' = record {
      after = after_same n (pieces_of a).0 (pieces_of (a ++ b)).0 d.laboratory d'.laboratory d.left d'.left (ap (λ (p : Pieces). p.0) (sym c)) (sym lab) (sym left) g.after;
      holds = holds_same d'.line _ _ (ap (λ (p : Pieces). p.1) (sym c)) holds;
      few = few;
    } in
    record {
      answered = takes_same first sink _ _ _ _ (sym (answers_line n a b line)) (sym waits) h.answered;
      well = h.well;
      stands = stands_on n (a ++ b) d' (over ∙ none) on;
    }

-- ---- the end of a line

-- the answers are longer by this reply, and the dialogue goes on
answers_step : (n : ℕ) (a text : List ℕ) → has_more_lines n a ≡ false → has_more_lines n (a ++ newline ∷ []) ≡ false → line_replies false ((pieces_of a).0 ++ (pieces_of a).1 ∷ []) ≡ line_replies false (pieces_of a).0 ++ text
    → answers n (a ++ newline ∷ []) false ≡ answers n a false ++ text
answers_step n a text few few' one =
    answers_few n (a ++ newline ∷ []) (whole_few n (a ++ newline ∷ []) few') ∙ ap (λ (p : Pieces). line_replies false p.0) (cut-newline a) ∙ one
    ∙ ap (λ (t : List ℕ). t ++ text) (sym (answers_few n a (whole_few n a few)))

len_step : (n : ℕ) (a : List ℕ) → has_more_lines n (a ++ newline ∷ []) ≡ false → length ((pieces_of a).0 ++ (pieces_of a).1 ∷ []) ≤ suc n
len_step n a few = omega (arith, few_lines n (a ++ newline ∷ []) few, len_newline a, length-append (pieces_of a).0 ((pieces_of a).1 ∷ []))

goes_on_cleared : (n : ℕ) (a : List ℕ) (d : Dialogue) (lab : Option Laboratory) (left : ℕ) → has_more_lines n (a ++ newline ∷ []) ≡ false → IsAfterLines n ((pieces_of a).0 ++ (pieces_of a).1 ∷ []) lab left
    → d.laboratory ≡ lab → d.left ≡ left → d.line ≡ Some [] → GoesOn n (a ++ newline ∷ []) d
goes_on_cleared n a d lab left few after k l clear =
    let c = cut-newline a in
    record {
      after = after_same n _ (pieces_of (a ++ newline ∷ [])).0 lab d.laboratory left d.left (ap (λ (p : Pieces). p.0) (sym c)) (sym k) (sym l) after;
      holds = holds_same d.line [] _ (ap (λ (p : Pieces). p.1) (sym c)) (no_bytes d.line clear);
      few = few;
    }

lab_after : (n : ℕ) (a : List ℕ) (d : Dialogue) (lab : Option Laboratory) → GoesOn n a d → d.laboratory ≡ lab → IsAfterLines n (pieces_of a).0 lab d.left
lab_after n a d lab g is = after_same n _ _ d.laboratory lab d.left d.left refl is refl g.after

pub later_step : (n : ℕ) (a text : List ℕ) (d d' : Dialogue) (kept kept' : Laboratory) → GoesOn n a d → d.laboratory ≡ Some kept → has_more_lines n (a ++ newline ∷ []) ≡ false
    → text ≡ reply (line_answer kept (read_held command_of d.line)) → kept' ≡ kept_after_line kept (read_held command_of d.line)
    → d'.laboratory ≡ Some kept' → d'.left ≡ d.left - 1 → d'.line ≡ Some [] → d'.over ≡ None
    → (answers n (a ++ newline ∷ []) false ≡ answers n a false ++ text) × IsAfterBytes n (a ++ newline ∷ []) d' d'.over
later_step n a text d d' kept kept' g is few says kept_is lab left clear over =
    let after = lab_after n a d (Some kept) g is in
    let one = later_replied n (pieces_of a).0 kept d.line d.left (pieces_of a).1 after g.holds in
    let next = later_kept n (pieces_of a).0 kept d.line d.left (pieces_of a).1 after g.holds (len_step n a few) in (
      answers_step n a text g.few few (one ∙ ap (λ (t : List ℕ). line_replies false (pieces_of a).0 ++ t) (sym says)),
      stands_on n (a ++ newline ∷ []) d' over (goes_on_cleared n a d' _ _ few next (lab ∙ ap (λ (k : Laboratory). Some k) kept_is) left clear),
    )

pub opening_step : (n : ℕ) (a text : List ℕ) (d d' : Dialogue) → GoesOn n a d → d.laboratory ≡ None → has_more_lines n (a ++ newline ∷ []) ≡ false
    → text ≡ reply (opening_answer (read_held plan_line_of d.line)) → d'.laboratory ≡ opened_laboratory (read_held plan_line_of d.line) → d'.laboratory ≢ None
    → d'.left ≡ d.left → d'.line ≡ Some [] → d'.over ≡ None
    → (answers n (a ++ newline ∷ []) false ≡ answers n a false ++ text) × IsAfterBytes n (a ++ newline ∷ []) d' d'.over
opening_step n a text d d' g is few says lab some left clear over =
    let after = lab_after n a d None g is in
    let one = opening_replied n (pieces_of a).0 d.line d.left (pieces_of a).1 after g.holds in
    let next = opened_after n (pieces_of a).0 d'.laboratory d.line d.left (pieces_of a).1 after g.holds lab some in (
      answers_step n a text g.few few (one ∙ ap (λ (t : List ℕ). line_replies false (pieces_of a).0 ++ t) (sym says)),
      stands_on n (a ++ newline ∷ []) d' over (goes_on_cleared n a d' _ _ few next refl left clear),
    )

none_left : (n : ℕ) (ls : List (List ℕ)) (left : ℕ) → IsAfterLines n ls None left → left ≡ n
none_left n [] left after = after
none_left n (first ∷ later) left after = absurd after

pub refused_step : (n : ℕ) (a text : List ℕ) (d : Dialogue) (lab : Option Laboratory) → GoesOn n a d → d.laboratory ≡ None → has_more_lines n (a ++ newline ∷ []) ≡ false
    → text ≡ reply (opening_answer (read_held plan_line_of d.line)) → lab ≡ opened_laboratory (read_held plan_line_of d.line) → lab ≡ None
    → (answers n (a ++ newline ∷ []) false ≡ answers n a false ++ text) × ((is_plan_refused (a ++ newline ∷ []) false ≡ true) × (lab ≡ None) × (d.left ≡ n))
refused_step n a text d lab g is few says kept none =
    let after = lab_after n a d None g is in
    let one = opening_replied n (pieces_of a).0 d.line d.left (pieces_of a).1 after g.holds in (
      answers_step n a text g.few few (one ∙ ap (λ (t : List ℕ). line_replies false (pieces_of a).0 ++ t) (sym says)),
      (
        refused_whole (a ++ newline ∷ []) ∙ ap (λ (p : Pieces). is_refusal (first_reading false p.0)) (cut-newline a)
            ∙ opening_refused n (pieces_of a).0 d.line d.left (pieces_of a).1 after g.holds (sym kept ∙ none),
        none,
        none_left n (pieces_of a).0 d.left after,
      ),
    )

-- ---- before any byte

no_answers : (n : ℕ) → answers n [] false ≡ []
unfolding answers
no_answers n = refl

pub nothing_came : (n : ℕ) (first : SinkView) (d : Dialogue) → d.laboratory ≡ None → d.left ≡ n → d.line ≡ Some [] → d.over ≡ None → d.waiting ≡ [] → HasAnswered n [] first first d
nothing_came n first d lab left clear over waits = record {
  answered = takes_same first first [] _ [] _ (sym (no_answers n)) (sym waits) (takes_none first []);
  well = refl;
  stands = stands_on n [] d over (record {
    after = after_same n [] [] None d.laboratory n d.left refl (sym lab) (sym left) refl;
    holds = no_bytes d.line clear;
    few = are_few n [] (omega arith);
  });
}
