-- A dialogue, after the bytes that came to it.
use Rattle.std.specs.Prelude.{◌≡◌, ℕ, suc, ◌+◌, ◌<◌, ◌≤◌, List, [], ◌∷◌, Bool, true, false, length, take}
use Rattle.std.specs.Prelude.{Option, Some, None, Ok}
use Rattle.road_plan.specs.declared.limits.TheConstants.{LONGEST_LINE}
use Rattle.road_format.specs.Cut.{pieces_of, lines_of}
use Rattle.road_format.specs.PlanGrammar.{PlanLine}
use Rattle.road_commands.specs.Laboratory.{Laboratory, laboratory_of_winners, opening_laboratory}
use Rattle.road_serve.specs.Answers.{plan_reading, command_reading, laboratory_after_line, answers}
use Rattle.road_serve.specs.Answers.{has_crowd, is_plan_refused, has_more_lines}
use Rattle.road_serve.specs.Faults.{CountsGone}
use Rattle.road_serve.specs.StreamViews.{SinkView, Stops, TakesAllBut}
use Rattle.road_serve.specs.declared.faults.EarlyEnd.{EarlyEnd}
use Rattle.road_serve.specs.declared.faults.EarlyEnd.TheVariants as ends
use Rattle.road_serve.specs.declared.faults.ServeFault.{ServeFault}

-- a dialogue, as contracts see it: the laboratory, once the plan line is accepted; the held bytes of the line that has
-- not ended, none if it is too long; the number of lines that may still come; the replies that wait to be written; and
-- why no further line is answered, or None
pub record Dialogue : Type 0 where
  pub laboratory : Option Laboratory
  pub line : Option (List ℕ)
  pub left : ℕ
  pub waiting : List ℕ
  pub over : Option EarlyEnd

-- ---- whole lines

-- the laboratory after these later lines
unfoldable pub laboratory_after_lines : Laboratory → List (List ℕ) → Laboratory
laboratory_after_lines lab [] = lab
laboratory_after_lines lab (line ∷ lines) =
    laboratory_after_lines (laboratory_after_line lab (command_reading line)) lines

-- The state after these lines: no laboratory before the first line; then the winners of the laboratory of its plan,
-- after the later lines. `left` is the number of lines that may still come.
abbrev pub IsAfterLines : ℕ → List (List ℕ) → Option Laboratory → ℕ → Type 0
IsAfterLines lines [] None left = left ≡ lines
IsAfterLines lines [] (Some kept) left = ⊥
IsAfterLines lines (first ∷ later) None left = ⊥
IsAfterLines lines (first ∷ later) (Some kept) left =
    (plan : PlanLine) × (plan_reading first ≡ Ok plan)
    × (kept ≡ laboratory_of_winners (laboratory_after_lines (opening_laboratory plan) later))
    × (left + length later ≡ lines)

-- ---- the line that has not ended

-- the held bytes of the line that has not ended; none if it is too long
pub data Holds (held : Option (List ℕ)) (line : List ℕ) : Type 0 where
  Whole : held ≡ Some line → length line ≤ LONGEST_LINE → Holds held line
  TooLong : held ≡ None → LONGEST_LINE < length line → Holds held line

-- ---- after bytes

-- the dialogue goes on: it is after the lines of these bytes that have ended, and holds the rest
pub record GoesOn (lines : ℕ) (bytes : List ℕ) (d : Dialogue) : Type 0 where
  pub after : IsAfterLines lines (pieces_of bytes).0 d.laboratory d.left
  pub holds : Holds d.line (pieces_of bytes).1
  pub few : has_more_lines lines bytes ≡ false

-- the dialogue goes on after these bytes, or is over: the plan line is refused, or there was a byte past the last line
-- that is allowed
abbrev pub IsAfterBytes : ℕ → List ℕ → Dialogue → Option EarlyEnd → Type 0
IsAfterBytes lines bytes d None = GoesOn lines bytes d
IsAfterBytes lines bytes d (Some ends.BadPlan) =
    (is_plan_refused bytes false ≡ true) × (d.laboratory ≡ None) × (d.left ≡ lines)
IsAfterBytes lines bytes d (Some ends.TooMany) =
    (is_plan_refused bytes false ≡ false) × (has_more_lines lines bytes ≡ true)
    × IsAfterLines lines (take (suc lines) (lines_of bytes false)) d.laboratory d.left

-- These bytes have come since the sink was `first`. Each line of them that has ended is answered, in the sink or in the
-- replies that wait. No call of the sink failed.
pub record HasAnswered (lines : ℕ) (bytes : List ℕ) (first sink : SinkView) (d : Dialogue)
    : Type 0 where
  pub answered : TakesAllBut first sink (answers lines bytes false) d.waiting
  pub well : sink.failures ≡ first.failures
  pub stands : IsAfterBytes lines bytes d d.over

-- ---- the end of input

-- the plan line was accepted, and the dialogue is after all lines; or the plan line is refused
abbrev pub IsAfterInput : ℕ → List ℕ → Dialogue → Option EarlyEnd → Type 0
IsAfterInput lines bytes d None =
    (is_plan_refused bytes true ≡ false) × (has_more_lines lines bytes ≡ false)
    × IsAfterLines lines (lines_of bytes true) d.laboratory d.left
IsAfterInput lines bytes d (Some ends.BadPlan) =
    (is_plan_refused bytes true ≡ true) × (d.laboratory ≡ None) × (d.left ≡ lines)
IsAfterInput lines bytes d (Some ends.TooMany) = ⊥

-- The input has ended with these bytes, and all its lines are answered, in the sink or in the replies that wait. No
-- call of the sink failed.
pub record HasFinished (lines : ℕ) (bytes : List ℕ) (first sink : SinkView) (d : Dialogue)
    : Type 0 where
  pub answered : TakesAllBut first sink (answers lines bytes true) d.waiting
  pub well : sink.failures ≡ first.failures
  pub stands : IsAfterInput lines bytes d d.over

-- ---- a call that fails

-- A call that would have answered these bytes ended with this fault. A prefix of the answers is in the sink. The crew
-- had returned `WorkersGone` `gone` times before the call, and `later` times after it.
pub record IsStopped (lines : ℕ) (bytes : List ℕ) (ended : Bool) (first sink : SinkView) (fault : ServeFault)
    (gone later : ℕ) : Type 0 where
  pub stops : Stops first sink (answers lines bytes ended) fault
  pub counts : CountsGone fault (has_crowd lines bytes ended) gone later
