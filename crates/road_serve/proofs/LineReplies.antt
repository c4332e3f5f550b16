-- One more line that has ended: its answer, and the laboratory kept after it.
use Rattle.std.proofs.Common.{◌≡◌, ◌≢◌, ◌≤◌, ℕ, suc, List, [], ◌∷◌, ◌++◌, ◌-◌, length, Bool, true, false, Option, Some, None, Result, Ok, Err, refl, ap, sym, ◌∙◌, append_assoc, append-nil, length-append, arith}
use Rattle.std.specs.Prelude.{nat_lt}
use Rattle.std.proofs.lemmas.Bool.{lt-ltb, le-ltb}
use Rattle.road_plan.specs.declared.limits.TheConstants.{LONGEST_LINE}
use Rattle.road_format.specs.CommandGrammar.{Command, command_of}
use Rattle.road_format.specs.PlanGrammar.{PlanLine, plan_line_of}
use Rattle.road_format.specs.Replies.{Answer, reply}
use Rattle.road_format.specs.declared.refusal.Refusal.{Refusal}
use Rattle.road_commands.specs.Laboratory.{Laboratory, laboratory_of_winners, opening_laboratory}
use Rattle.road_commands.proofs.WinnersSuffice.{after-of_winners, answer-of_winners}
use Rattle.road_world.proofs.WinnersSuffice.{opening_world-of_winners}
use Rattle.road_world.specs.Events.{World}
use Rattle.road_serve.specs.Answers.{is_long, reading_unless, plan_reading, command_reading, opening_answer, line_answer, laboratory_after_line, later_replies, input_replies, first_reading, line_replies, is_refusal}
use Rattle.road_serve.specs.Dialogue.{laboratory_after_lines, IsAfterLines, Holds, Whole, TooLong}
use Rattle.road_serve.specs.Private.KeptLaboratory.{kept_after_line, opened_laboratory}
use Rattle.road_serve.specs.Private.Readings.{read_held}

-- ---- later lines

replies-snoc : (lab : Laboratory) (ls : List (List ℕ)) (l : List ℕ)
    → later_replies lab (ls ++ l ∷ []) ≡ later_replies lab ls ++ reply (line_answer (laboratory_after_lines lab ls) (command_reading l))
unfolding later_replies laboratory_after_lines
replies-snoc lab [] l = append-nil (reply (line_answer lab (command_reading l)))
replies-snoc lab (x ∷ ls) l =
    let one = reply (line_answer lab (command_reading x)) in
    let after = laboratory_after_line lab (command_reading x) in
    ap (λ (t : List ℕ). one ++ t) (replies-snoc after ls l)
    ∙ sym (append_assoc one (later_replies after ls) (reply (line_answer (laboratory_after_lines after ls) (command_reading l))))

after-snoc : (lab : Laboratory) (ls : List (List ℕ)) (l : List ℕ) → laboratory_after_lines lab (ls ++ l ∷ []) ≡ laboratory_after_line (laboratory_after_lines lab ls) (command_reading l)
unfolding laboratory_after_lines
after-snoc lab [] l = refl
after-snoc lab (x ∷ ls) l = after-snoc (laboratory_after_line lab (command_reading x)) ls l

-- the winners suffice for the answer to a line, and for the winners after the line
answered_by_winners : (lab : Laboratory) (reading : Result Command Refusal) → line_answer (laboratory_of_winners lab) reading ≡ line_answer lab reading
answered_by_winners lab (Err refusal) = refl
answered_by_winners lab (Ok command) = answer-of_winners lab command

kept_by_winners : (lab : Laboratory) (reading : Result Command Refusal) → kept_after_line (laboratory_of_winners lab) reading ≡ laboratory_of_winners (laboratory_after_line lab reading)
kept_by_winners lab (Err refusal) = refl
kept_by_winners lab (Ok command) = after-of_winners lab command

opening-of_winners : (plan : PlanLine) → laboratory_of_winners (opening_laboratory plan) ≡ opening_laboratory plan
opening-of_winners plan =
    ap (λ (w : World). let lab : Laboratory = record { replica_names = plan.names; message_names = []; world = w } in lab)
    (opening_world-of_winners plan.plan (length plan.names))

later_more : (lab : Laboratory) (ls : List (List ℕ)) (l : List ℕ)
    → later_replies lab (ls ++ l ∷ []) ≡ later_replies lab ls ++ reply (line_answer (laboratory_of_winners (laboratory_after_lines lab ls)) (command_reading l))
later_more lab ls l =
    replies-snoc lab ls l ∙ ap (λ (a : Answer). later_replies lab ls ++ reply a) (sym (answered_by_winners (laboratory_after_lines lab ls) (command_reading l)))

-- ---- the held line

-- the reading of the held bytes is the reading of the line
pub held_reading : {A : Type 0} (f : List ℕ → Result A Refusal) (held : Option (List ℕ)) (line : List ℕ) → Holds held line → read_held f held ≡ reading_unless (is_long line) (f line)
held_reading f held line (Whole e l) =
    let short : nat_lt LONGEST_LINE (length line) ≡ false = le-ltb _ _ l in
    ap (read_held f) e ∙ sym (ap (λ (b : Bool). reading_unless b (f line)) short)
held_reading f held line (TooLong e l) =
    let over : nat_lt LONGEST_LINE (length line) ≡ true = lt-ltb _ _ l in
    ap (read_held f) e ∙ sym (ap (λ (b : Bool). reading_unless b (f line)) over)

pub no_bytes : (held : Option (List ℕ)) → held ≡ Some [] → Holds held []
no_bytes held none = Whole none (omega arith)

-- ---- the held line ends, and is a later line

-- the laboratory kept after the later lines of a plan
abbrev kept_after_lines : PlanLine → List (List ℕ) → Laboratory
kept_after_lines plan ls = laboratory_of_winners (laboratory_after_lines (opening_laboratory plan) ls)

session-snoc : (plan : PlanLine) (reading : Result PlanLine Refusal) (later : List (List ℕ)) (l : List ℕ) → reading ≡ Ok plan
    → input_replies reading (later ++ l ∷ []) ≡ input_replies reading later ++ reply (line_answer (kept_after_lines plan later) (command_reading l))
session-snoc plan (Err refusal) later l is = absurd (cc)
session-snoc plan (Ok read) later l is =
    let same : read ≡ plan = cc in
    let opened = reply (opening_answer (Ok read)) in
    let next : List ℕ = reply (line_answer (kept_after_lines read later) (command_reading l)) in
    ap (λ (t : List ℕ). opened ++ t) (later_more (opening_laboratory read) later l) ∙ sym (append_assoc opened (later_replies (opening_laboratory read) later) next)
    ∙ ap (λ (p : PlanLine). input_replies (Ok read) later ++ reply (line_answer (kept_after_lines p later) (command_reading l))) same

pub later_replied : (n : ℕ) (ls : List (List ℕ)) (kept : Laboratory) (held : Option (List ℕ)) (left : ℕ) (l : List ℕ) → IsAfterLines n ls (Some kept) left → Holds held l
    → line_replies false (ls ++ l ∷ []) ≡ line_replies false ls ++ reply (line_answer kept (read_held command_of held))
later_replied n [] kept held left l after holds = absurd after
later_replied n (first ∷ later) kept held left l after holds =
    let read = held_reading command_of held l holds in
    session-snoc after.0 (plan_reading first) later l after.1
    ∙ ap (λ (k : Laboratory). input_replies (plan_reading first) later ++ reply (line_answer k (command_reading l))) (sym after.2)
    ∙ ap (λ (r : Result Command Refusal). input_replies (plan_reading first) later ++ reply (line_answer kept r)) (sym read)

pub later_kept : (n : ℕ) (ls : List (List ℕ)) (kept : Laboratory) (held : Option (List ℕ)) (left : ℕ) (l : List ℕ) → IsAfterLines n ls (Some kept) left → Holds held l → length (ls ++ l ∷ []) ≤ suc n
    → IsAfterLines n (ls ++ l ∷ []) (Some (kept_after_line kept (read_held command_of held))) (left - 1)
later_kept n [] kept held left l after holds few = absurd after
later_kept n (first ∷ later) kept held left l after holds few =
    let read = held_reading command_of held l holds in
    let lab = laboratory_after_lines (opening_laboratory after.0) later in (
      after.0,
      after.1,
      ap (kept_after_line kept) read ∙ ap (λ (k : Laboratory). kept_after_line k (command_reading l)) after.2
          ∙ kept_by_winners lab (command_reading l) ∙ ap laboratory_of_winners (sym (after-snoc (opening_laboratory after.0) later l)),
      omega (arith, after.3, length-append later (l ∷ [])),
    )

-- ---- the held line ends, and is the plan line

opened : (reading : Result PlanLine Refusal) → input_replies reading [] ≡ reply (opening_answer reading)
unfolding later_replies
opened (Err refusal) = refl
opened (Ok plan) = append-nil (reply (opening_answer (Ok plan)))

pub opening_replied : (n : ℕ) (ls : List (List ℕ)) (held : Option (List ℕ)) (left : ℕ) (l : List ℕ) → IsAfterLines n ls None left → Holds held l
    → line_replies false (ls ++ l ∷ []) ≡ line_replies false ls ++ reply (opening_answer (read_held plan_line_of held))
opening_replied n [] held left l after holds = opened (plan_reading l) ∙ ap (λ (r : Result PlanLine Refusal). reply (opening_answer r)) (sym (held_reading plan_line_of held l holds))
opening_replied n (first ∷ later) held left l after holds = absurd after

accepted : (n left : ℕ) (lab : Option Laboratory) (l : List ℕ) (reading : Result PlanLine Refusal) → plan_reading l ≡ reading → lab ≡ opened_laboratory reading → lab ≢ None → left ≡ n → IsAfterLines n (l ∷ []) lab left
unfolding laboratory_after_lines
accepted n left None l reading read is some all = absurd (some refl)
accepted n left (Some kept) l (Err refusal) read is some all = absurd (cc)
accepted n left (Some kept) l (Ok plan) read is some all = let same : kept ≡ opening_laboratory plan = cc in (plan, read, same ∙ sym (opening-of_winners plan), omega arith)

pub opened_after : (n : ℕ) (ls : List (List ℕ)) (lab : Option Laboratory) (held : Option (List ℕ)) (left : ℕ) (l : List ℕ) → IsAfterLines n ls None left → Holds held l
    → lab ≡ opened_laboratory (read_held plan_line_of held) → lab ≢ None → IsAfterLines n (ls ++ l ∷ []) lab left
opened_after n [] lab held left l after holds is some =
    accepted n left lab l (plan_reading l) refl (is ∙ ap opened_laboratory (held_reading plan_line_of held l holds)) some after
opened_after n (first ∷ later) lab held left l after holds is some = absurd after

refused : (reading : Result PlanLine Refusal) → opened_laboratory reading ≡ None → is_refusal (Some reading) ≡ true
refused (Err refusal) is = refl
refused (Ok plan) is = absurd (cc)

pub opening_refused : (n : ℕ) (ls : List (List ℕ)) (held : Option (List ℕ)) (left : ℕ) (l : List ℕ) → IsAfterLines n ls None left → Holds held l
    → opened_laboratory (read_held plan_line_of held) ≡ None → is_refusal (first_reading false (ls ++ l ∷ [])) ≡ true
opening_refused n [] held left l after holds is = refused (plan_reading l) (sym (ap opened_laboratory (held_reading plan_line_of held l holds)) ∙ is)
opening_refused n (first ∷ later) held left l after holds is = absurd after
