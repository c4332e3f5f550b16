-- Crowds among the lines: a held crowd becomes one of the lines, and stays among them as more bytes come.
use Rattle.std.proofs.Common.{◌≡◌, ◌<◌, ◌≤◌, ◌+◌, ℕ, suc, List, [], ◌∷◌, ◌++◌, ◌||◌, length, take, drop, Bool, true, false, Option, Some, None, Result, Ok, Err, refl, ap, sym, ◌∙◌, append-nil}
use Rattle.std.specs.Prelude.{MatchResult}
use Rattle.std.specs.List.{list_any}
use Rattle.std.proofs.lemmas.List.{take_all}
use Rattle.std.proofs.lemmas.List.Folds.{list_any-append}
use Rattle.road_plan.specs.Plan.{Plan}
use Rattle.road_format.specs.Cut.{newline, Pieces, pieces_of, lines_of}
use Rattle.road_format.specs.CommandGrammar.{Command, command_of}
use Rattle.road_format.specs.PlanGrammar.{PlanLine}
use Rattle.road_format.specs.declared.refusal.Refusal.{Refusal}
use Rattle.road_format.proofs.CutLines.{lines_go_on}
use Rattle.road_commands.specs.Laboratory.{Laboratory, opening_laboratory}
use Rattle.road_commands.proofs.PlanStays.{plan-after}
use Rattle.road_serve.specs.Answers.{command_reading, gathers, gathers_by, has_crowd, has_more_lines, laboratory_after_line, lines_gather, plan_reading}
use Rattle.road_serve.specs.Dialogue.{GoesOn, HasAnswered, HasFinished, Holds, IsAfterLines, IsStopped, laboratory_after_lines}
use Rattle.road_serve.specs.Private.KeptLaboratory.{gathers_at, holds_crowd}
use Rattle.road_serve.specs.Private.Readings.{read_held}
use Rattle.road_serve.specs.StreamViews.{SinkView}
use Rattle.road_serve.specs.Dialogue.{Dialogue}
use Rattle.road_serve.specs.declared.faults.ServeFault.{ServeFault}
use Rattle.road_serve.proofs.AnswersGrow.{take_front, whole_few}
use Rattle.road_serve.proofs.CutBytes.{EndsAt, cut-newline}
use Rattle.road_serve.proofs.DialogueCalls.{both_parts, line_taken, stops_same}
use Rattle.road_serve.proofs.DialogueEnds.{answers_ended, ended_line, line_finished, newline_lines}
use Rattle.road_serve.proofs.GoneCounts.{counts_same}
use Rattle.road_serve.proofs.LineReplies.{held_reading}

-- ---- as more lines come

or_true : (a b : Bool) → a ≡ true → (a || b) ≡ true
or_true true b is = refl
or_true false b is = absurd (cc)

true_or : (a b : Bool) → b ≡ true → (a || b) ≡ true
true_or true b is = refl
true_or false b is = is

by_more : (reading : Result PlanLine Refusal) (a b : List (List ℕ)) → gathers_by (Some reading) a ≡ true → gathers_by (Some reading) (a ++ b) ≡ true
by_more (Err refusal) a b is = is
by_more (Ok first) a b is =
    let test : List ℕ → Bool = λ line. gathers first.plan (command_reading line) in
    list_any-append test a b ∙ or_true (list_any test a) (list_any test b) is

lines_more : (ended : Bool) (a b : List (List ℕ)) → lines_gather false a ≡ true → lines_gather ended (a ++ b) ≡ true
lines_more ended [] b is = absurd (cc)
lines_more ended (first ∷ a) b is = by_more (plan_reading first) a b is

pub crowd_more : (n : ℕ) (a b : List ℕ) (ended : Bool) → has_crowd n a false ≡ true → has_crowd n (a ++ b) ended ≡ true
unfolding has_crowd
crowd_more n a b ended is =
    let q = lines_go_on a b ended in
    let u = take_front (suc n) (lines_of a false) q.0 in
    ap (λ (ls : List (List ℕ)). lines_gather ended (take (suc n) ls)) q.1 ∙ ap (lines_gather ended) u.1 ∙ lines_more ended (take (suc n) (lines_of a false)) u.0 is

-- a crowd among the lines up to a newline is among the lines of all the bytes
pub crowd_line : (n : ℕ) (a b : List ℕ) (i : ℕ) → EndsAt b i → has_crowd n ((a ++ take i b) ++ newline ∷ []) false ≡ true → has_crowd n (a ++ b) false ≡ true
crowd_line n a b i ends is =
    let whole : ((a ++ take i b) ++ newline ∷ []) ++ drop (i + 1) b ≡ a ++ b = ap (λ (x : List ℕ). x ++ drop (i + 1) b) (line_taken a b i ends) ∙ both_parts a b (i + 1) in
    ap (λ (x : List ℕ). has_crowd n x false) (sym whole) ∙ crowd_more n ((a ++ take i b) ++ newline ∷ []) (drop (i + 1) b) false is

-- ---- at the end of the input

same_lines : (n : ℕ) (ls : List (List ℕ)) (r : List ℕ) → lines_gather true (take (suc n) (ls ++ r ∷ [])) ≡ lines_gather false (take (suc n) (ls ++ r ∷ []))
same_lines n [] r = refl
same_lines n (l ∷ ls) r = refl

-- a last piece is a line, as if a newline followed it
crowd_ended : (n : ℕ) (a : List ℕ) → 0 < length (pieces_of a).1 → has_crowd n a true ≡ has_crowd n (a ++ newline ∷ []) false
unfolding has_crowd
crowd_ended n a some =
    ap (λ (ls : List (List ℕ)). lines_gather true (take (suc n) ls)) (ended_line a some) ∙ same_lines n (pieces_of a).0 (pieces_of a).1
    ∙ ap (λ (ls : List (List ℕ)). lines_gather false (take (suc n) ls)) (sym (newline_lines a))

-- a last line that is answered or fails, at the end of the input
pub line_ends : (n : ℕ) (a : List ℕ) (first sink : SinkView) (d : Dialogue) (r : Result (Unit {0}) ServeFault) (gone later : ℕ) → has_more_lines n a ≡ false → 0 < length (pieces_of a).1
    → MatchResult r (λ _. HasAnswered n (a ++ newline ∷ []) first sink d) (λ fault. IsStopped n (a ++ newline ∷ []) false first sink fault gone later)
    → MatchResult r (λ _. HasFinished n a first sink d) (λ fault. IsStopped n a true first sink fault gone later)
line_ends n a first sink d (Ok done) gone later few some h = line_finished n a first sink d few some h
line_ends n a first sink d (Err fault) gone later few some s = record {
  stops = stops_same first sink _ _ fault (sym (answers_ended n a some)) s.stops;
  counts = counts_same fault _ _ _ _ _ (sym (crowd_ended n a some)) refl s.counts;
}

-- ---- the plan stays the same

line_keeps : (lab : Laboratory) (reading : Result Command Refusal) → (laboratory_after_line lab reading).world.plan ≡ lab.world.plan
line_keeps lab (Err refusal) = refl
line_keeps lab (Ok command) = plan-after lab command

lines_keep : (lab : Laboratory) (ls : List (List ℕ)) → (laboratory_after_lines lab ls).world.plan ≡ lab.world.plan
unfolding laboratory_after_lines
lines_keep lab [] = refl
lines_keep lab (line ∷ ls) = lines_keep (laboratory_after_line lab (command_reading line)) ls ∙ line_keeps lab (command_reading line)

-- ---- the held bytes become a line

last_gathers : (plan : PlanLine) (later : List (List ℕ)) (l : List ℕ) → gathers plan.plan (command_reading l) ≡ true → gathers_by (Some (Ok plan)) (later ++ l ∷ []) ≡ true
last_gathers plan later l is =
    let test : List ℕ → Bool = λ line. gathers plan.plan (command_reading line) in
    list_any-append test later (l ∷ []) ∙ true_or (list_any test later) (list_any test (l ∷ [])) (or_true (test l) false is)

held_gathers : (n : ℕ) (ls : List (List ℕ)) (lab : Option Laboratory) (held : Option (List ℕ)) (left : ℕ) (l : List ℕ) → IsAfterLines n ls lab left → Holds held l
    → gathers_at lab (read_held command_of held) ≡ true → lines_gather false (ls ++ l ∷ []) ≡ true
held_gathers n ls None held left l after holds is = absurd (cc)
held_gathers n [] (Some kept) held left l after holds is = absurd after
held_gathers n (first ∷ later) (Some kept) held left l after holds is =
    let same : kept.world.plan ≡ after.0.plan = ap (λ (k : Laboratory). k.world.plan) after.2 ∙ lines_keep (opening_laboratory after.0) later in
    let read = held_reading command_of held l holds in
    let line : gathers after.0.plan (command_reading l) ≡ true =
    ap (λ (p : Plan). gathers p (command_reading l)) (sym same) ∙ ap (λ (r : Result Command Refusal). gathers kept.world.plan r) (sym read) ∙ is in
    ap (λ (r : Result PlanLine Refusal). gathers_by (Some r) (later ++ l ∷ [])) after.1 ∙ last_gathers after.0 later l line

whole_lines : (n : ℕ) (a : List ℕ) → length (pieces_of a).0 ≤ suc n → has_crowd n a false ≡ lines_gather false (pieces_of a).0
unfolding has_crowd
whole_lines n a few = ap (λ (ls : List (List ℕ)). lines_gather false (take (suc n) ls)) (append-nil (pieces_of a).0) ∙ ap (lines_gather false) (take_all (suc n) (pieces_of a).0 few)

pub crowd_held : (n : ℕ) (a : List ℕ) (d : Dialogue) → GoesOn n a d → has_more_lines n (a ++ newline ∷ []) ≡ false → holds_crowd d ≡ true → has_crowd n (a ++ newline ∷ []) false ≡ true
crowd_held n a d on few is =
    whole_lines n (a ++ newline ∷ []) (whole_few n (a ++ newline ∷ []) few) ∙ ap (λ (p : Pieces). lines_gather false p.0) (cut-newline a)
    ∙ held_gathers n (pieces_of a).0 d.laboratory d.line d.left (pieces_of a).1 on.after on.holds is
