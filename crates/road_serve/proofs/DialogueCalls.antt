-- The promises of a dialogue's calls, from the effects of their parts.
use Rattle.std.proofs.Common.{◌≡◌, ◌+◌, ℕ, suc, List, [], ◌∷◌, ◌++◌, length, take, drop, Bool, false, IsSome, Option, Some, None, Result, Ok, Err, refl, ap, sym, subst, ◌∙◌, append_assoc, append-nil, take-append-drop, arith}
use Rattle.std.specs.Prelude.{OnOk, IfErr, MatchResult}
use Rattle.std.proofs.lemmas.List.{take_all}
use Rattle.std.proofs.Math.Seq.{take-add}
use Rattle.std.specs.Io.KnownBytes.{Appends}
use Rattle.road_format.specs.Cut.{newline, pieces_of}
use Rattle.road_workers.specs.declared.faults.CrewFault.{CrewFault}
use Rattle.road_workers.specs.declared.faults.CrewFault.TheVariants as crew_faults
use Rattle.road_serve.specs.Answers.{answers, has_crowd, has_more_lines}
use Rattle.road_serve.specs.Faults.{CountsGone, crew_fault}
use Rattle.road_serve.specs.Failures.{RisesByOne}
use Rattle.road_serve.specs.Dialogue.{Holds, GoesOn, IsAfterBytes, HasAnswered, IsStopped}
use Rattle.road_serve.specs.StreamViews.{SinkView, TakesAllBut, TakesFront, Stops}
use Rattle.road_serve.specs.Dialogue.{Dialogue}
use Rattle.road_serve.specs.declared.faults.EarlyEnd.{EarlyEnd}
use Rattle.road_serve.specs.declared.faults.EarlyEnd.TheVariants as ends
use Rattle.road_serve.specs.declared.faults.ServeFault.{ServeFault}
use Rattle.road_serve.specs.declared.faults.ServeFault.TheVariants as faults
use Rattle.road_serve.proofs.AnswersGrow.{answers_more}
use Rattle.road_serve.proofs.CutBytes.{IsLine, EndsAt}
use Rattle.road_serve.proofs.DialogueSteps.{after_same, goes_on, room_line, room_newline, held_more}
use Rattle.road_serve.proofs.SinkTexts.{takes_same, takes_all, takes_more, front_longer, stops_longer, stops_after}

pub answered_same : (n : ℕ) (a a' : List ℕ) (first sink : SinkView) (d : Dialogue) → a ≡ a' → HasAnswered n a first sink d → HasAnswered n a' first sink d
answered_same n a a' first sink d e h = let Family : List ℕ → Type 0 = λ x. HasAnswered n x first sink d in subst Family e h

pub stops_same : (a b : SinkView) (text text' : List ℕ) (fault : ServeFault) → text ≡ text' → Stops a b text fault → Stops a b text' fault
stops_same a b text text' fault e s = let Family : List ℕ → Type 0 = λ x. Stops a b x fault in subst Family e s

-- if a call ended with `OutOfMemory` or `WorkersGone` and wrote nothing more, a prefix of the answers is written
stopped_front : (n : ℕ) (a b : List ℕ) (ended : Bool) (first sink : SinkView) (d : Dialogue) → HasAnswered n a first sink d → TakesFront first sink (answers n (a ++ b) ended)
stopped_front n a b ended first sink d h =
    let more = answers_more n a b ended in
    front_longer first sink _ more.0 _ more.1 (d.waiting, h.answered)

pub stops_memory : (n : ℕ) (a b : List ℕ) (ended : Bool) (first sink : SinkView) (d : Dialogue) → HasAnswered n a first sink d → Stops first sink (answers n (a ++ b) ended) faults.OutOfMemory
stops_memory n a b ended first sink d h = (stopped_front n a b ended first sink d h, h.well)

pub stops_unanswered : (n : ℕ) (a b : List ℕ) (ended : Bool) (first sink : SinkView) (d : Dialogue) (fault : CrewFault) → HasAnswered n a first sink d → Stops first sink (answers n (a ++ b) ended) (crew_fault fault)
stops_unanswered n a b ended first sink d crew_faults.WorkersGone h = (stopped_front n a b ended first sink d h, h.well)
stops_unanswered n a b ended first sink d crew_faults.OutOfMemory h = (stopped_front n a b ended first sink d h, h.well)

pub stops_sooner : (n : ℕ) (a b : List ℕ) (ended : Bool) (first sink : SinkView) (fault : ServeFault) → Stops first sink (answers n a false) fault → Stops first sink (answers n (a ++ b) ended) fault
stops_sooner n a b ended first sink fault s = let more = answers_more n a b ended in stops_longer first sink _ more.0 _ fault more.1 s

-- ---- a line is answered

goes_on_same : (n : ℕ) (a : List ℕ) (d d' : Dialogue) → d'.laboratory ≡ d.laboratory → d'.left ≡ d.left → d'.line ≡ d.line → GoesOn n a d → GoesOn n a d'
goes_on_same n a d d' lab left held g = record {
  after = rw (lab, left) g.after;
  holds = rw held g.holds;
  few = g.few;
}

stands_same : (n : ℕ) (a : List ℕ) (d d' : Dialogue) (o : Option EarlyEnd) → d'.laboratory ≡ d.laboratory → d'.left ≡ d.left → d'.line ≡ d.line → IsAfterBytes n a d o → IsAfterBytes n a d' o
stands_same n a d d' None lab left held s = goes_on_same n a d d' lab left held s
stands_same n a d d' (Some ends.BadPlan) lab left held s = (s.0, lab ∙ s.1, left ∙ s.2)
stands_same n a d d' (Some ends.TooMany) lab left held s = (s.0, s.1, after_same n _ _ d.laboratory d'.laboratory d.left d'.left refl (sym lab) (sym left) s.2)

abbrev pub Put : SinkView → SinkView → List ℕ → List ℕ → Result (Unit {0}) ServeFault → Type 0
Put sink sink' text rest r =
    OnOk r (TakesAllBut sink sink' text rest) × OnOk r (sink'.failures ≡ sink.failures) × IfErr r (λ fault. Stops sink sink' text fault)

-- d is the dialogue before its reply waits or is written, and d' the dialogue after that
pub answer_ends : (n : ℕ) (a b text all : List ℕ) (first sink sink' : SinkView) (d0 d d' : Dialogue) (r : Result (Unit {0}) ServeFault) (count later : ℕ) → HasAnswered n a first sink d0 → answers n (a ++ b) false ≡ answers n a false ++ text → IsAfterBytes n (a ++ b) d d.over
    → all ≡ d0.waiting ++ text → Put sink sink' all d'.waiting r → d'.laboratory ≡ d.laboratory → d'.left ≡ d.left → d'.line ≡ d.line → d'.over ≡ d.over
    → IfErr r (λ fault. CountsGone fault (has_crowd n (a ++ b) false) count later) → MatchResult r (λ _. HasAnswered n (a ++ b) first sink' d') (λ fault. IsStopped n (a ++ b) false first sink' fault count later)
answer_ends n a b text all first sink sink' d0 d d' (Ok done) count later h says stands e put lab left held over counts =
    let Family : Option EarlyEnd → Type 0 = λ o. IsAfterBytes n (a ++ b) d' o in
    record {
      answered = takes_same first sink' _ _ _ _ (sym says) refl (takes_more first sink sink' (answers n a false) d0.waiting text d'.waiting h.answered (takes_same sink sink' all _ _ _ e refl put.0));
      well = put.1 ∙ h.well;
      stands = subst Family (sym over) (stands_same n (a ++ b) d d' d.over lab left held stands);
    }
answer_ends n a b text all first sink sink' d0 d d' (Err fault) count later h says stands e put lab left held over counts = record {
  stops = stops_same first sink' _ _ fault (sym says) (stops_after first sink sink' (answers n a false) d0.waiting text fault h.answered h.well (stops_same sink sink' all _ fault e put.2));
  counts = counts;
}

-- ---- the bytes of a line are held

pub held_line : (n : ℕ) (a piece : List ℕ) (first sink : SinkView) (d d' : Dialogue) → HasAnswered n a first sink d → d.over ≡ None → (IsSome d.laboratory → d.left ≡ 0 → ⊥) → IsLine piece
    → d'.laboratory ≡ d.laboratory → d'.left ≡ d.left → d'.waiting ≡ d.waiting → d'.over ≡ d.over → ((line : List ℕ) → Holds d.line line → Holds d'.line (line ++ piece))
    → HasAnswered n (a ++ piece) first sink d'
held_line n a piece first sink d d' h none open_ line lab left waits over holds =
    let on = goes_on n a first sink d h none in
    held_more n a piece first sink d d' h none (room_line n a piece d on open_ line) line lab left waits over (holds (pieces_of a).1 on.holds)

pub few_line : (n : ℕ) (a piece : List ℕ) (first sink : SinkView) (d : Dialogue) → HasAnswered n a first sink d → d.over ≡ None → (IsSome d.laboratory → d.left ≡ 0 → ⊥) → IsLine piece → has_more_lines n ((a ++ piece) ++ newline ∷ []) ≡ false
few_line n a piece first sink d h none open_ line = room_newline n a piece d (goes_on n a first sink d h none) open_ line

-- ---- parts of the bytes

pub all_taken : (a b : List ℕ) → a ++ b ≡ a ++ take (length b) b
all_taken a b = ap (λ (x : List ℕ). a ++ x) (sym (take_all (length b) b (omega arith)))

pub line_taken : (a b : List ℕ) (i : ℕ) → EndsAt b i → (a ++ take i b) ++ newline ∷ [] ≡ a ++ take (i + 1) b
line_taken a b i ends =
    let next : i + 1 ≡ suc i = omega arith in
    append_assoc a (take i b) (newline ∷ []) ∙ ap (λ (x : List ℕ). a ++ x) (sym ends.newline_next ∙ ap (λ (k : ℕ). take k b) (sym next))

pub both_parts : (a b : List ℕ) (i : ℕ) → (a ++ take i b) ++ drop i b ≡ a ++ b
both_parts a b i = append_assoc a (take i b) (drop i b) ∙ ap (λ (x : List ℕ). a ++ x) (take-append-drop i b)

pub part_then_part : (a b : List ℕ) (i k : ℕ) → (a ++ take i b) ++ take k (drop i b) ≡ a ++ take (i + k) b
part_then_part a b i k = append_assoc a (take i b) (take k (drop i b)) ∙ ap (λ (x : List ℕ). a ++ x) (sym (take-add i k b))

pub stops_line : (n : ℕ) (a b : List ℕ) (i : ℕ) (first sink : SinkView) (fault : ServeFault) → EndsAt b i → Stops first sink (answers n ((a ++ take i b) ++ newline ∷ []) false) fault → Stops first sink (answers n (a ++ b) false) fault
stops_line n a b i first sink fault ends s =
    let whole : ((a ++ take i b) ++ newline ∷ []) ++ drop (i + 1) b ≡ a ++ b = ap (λ (x : List ℕ). x ++ drop (i + 1) b) (line_taken a b i ends) ∙ both_parts a b (i + 1) in
    stops_same first sink _ _ fault (ap (λ (x : List ℕ). answers n x false) whole) (stops_sooner n ((a ++ take i b) ++ newline ∷ []) (drop (i + 1) b) false first sink fault s)

-- ---- the waiting replies are flushed

pub flush_stops : (first sink sink' : SinkView) (text waiting : List ℕ) → TakesAllBut first sink text waiting → sink.failures ≡ first.failures → TakesFront sink sink' waiting → RisesByOne sink.failures sink'.failures → Stops first sink' text faults.Write
flush_stops first sink sink' text waiting t well front rises =
    let front' : TakesFront sink sink' (waiting ++ []) = front_longer sink sink' waiting [] (waiting ++ []) refl front in
    stops_same first sink' _ _ faults.Write (append-nil text) (stops_after first sink sink' text waiting [] faults.Write t well (front', rises))

pub flush_ends : (first sink sink' : SinkView) (text waiting waiting' : List ℕ) → TakesAllBut first sink text waiting → Appends sink.contents sink'.contents waiting → waiting' ≡ [] → TakesAllBut first sink' text waiting'
flush_ends first sink sink' text waiting waiting' t all none =
    takes_same first sink' _ _ [] waiting' (append-nil text) (sym none)
    (takes_more first sink sink' text waiting [] [] t (takes_same sink sink' waiting _ [] [] (sym (append-nil waiting)) refl (takes_all sink sink' waiting all)))

pub flushed : (n : ℕ) (a : List ℕ) (first sink sink' : SinkView) (d d' : Dialogue) → HasAnswered n a first sink d → Appends sink.contents sink'.contents d.waiting → sink'.failures ≡ sink.failures → d'.waiting ≡ []
    → d'.laboratory ≡ d.laboratory → d'.left ≡ d.left → d'.line ≡ d.line → d'.over ≡ d.over → HasAnswered n a first sink' d'
flushed n a first sink sink' d d' h all well none lab left held over =
    let Family : Option EarlyEnd → Type 0 = λ o. IsAfterBytes n a d' o in
    record {
      answered = flush_ends first sink sink' (answers n a false) d.waiting d'.waiting h.answered all none;
      well = well ∙ h.well;
      stands = subst Family (sym over) (stands_same n a d d' d.over lab left held h.stands);
    }
