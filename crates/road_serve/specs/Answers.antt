-- The answers to an input.
use Rattle.std.specs.Prelude.{ℕ, suc, List, [], ◌∷◌, ◌++◌, ◌&&◌, ◌||◌, Bool, true, false, take, length, nat_lt, nat_le}
use Rattle.std.specs.Prelude.{Option, Some, None, Result, Ok, Err}
use Rattle.std.specs.List.{list_any}
use Rattle.road_plan.specs.Plan.{Plan}
use Rattle.road_plan.specs.declared.limits.TheConstants.{LONGEST_LINE}
use Rattle.road_format.specs.Cut.{lines_of}
use Rattle.road_format.specs.CommandGrammar.{Command, command_of}
use Rattle.road_format.specs.PlanGrammar.{PlanLine, plan_line_of}
use Rattle.road_format.specs.Replies.{Answer, Open, Refused, reply}
use Rattle.road_format.specs.declared.refusal.Refusal.{Refusal}
use Rattle.road_format.specs.declared.refusal.Refusal.TheVariants as refusals
use Rattle.road_commands.specs.Laboratory.{Laboratory, answer_to, is_gathered, laboratory_after, opening_laboratory}

-- ---- one line

-- whether a line has more bytes than the longest allowed one
abbrev pub is_long : List ℕ → Bool
is_long line = nat_lt LONGEST_LINE (length line)

-- the reading of a line: a line that is too long is refused unread
abbrev pub reading_unless : {A : Type 0} → Bool → Result A Refusal → Result A Refusal
reading_unless true reading = Err refusals.LineTooLong
reading_unless false reading = reading

-- the plan of the first line, or why it is refused
abbrev pub plan_reading : List ℕ → Result PlanLine Refusal
plan_reading line = reading_unless (is_long line) (plan_line_of line)

-- the command of a later line, or why it is refused
abbrev pub command_reading : List ℕ → Result Command Refusal
command_reading line = reading_unless (is_long line) (command_of line)

-- the answer to the first line
abbrev pub opening_answer : Result PlanLine Refusal → Answer
opening_answer (Err refusal) = Refused refusal
opening_answer (Ok plan) = Open (length plan.names)

-- the answer to a later line
abbrev pub line_answer : Laboratory → Result Command Refusal → Answer
line_answer lab (Err refusal) = Refused refusal
line_answer lab (Ok command) = answer_to lab command

-- the laboratory after a later line: a refused line changes nothing
abbrev pub laboratory_after_line : Laboratory → Result Command Refusal → Laboratory
laboratory_after_line lab (Err refusal) = lab
laboratory_after_line lab (Ok command) = laboratory_after lab command

-- whether a later line is a crowd that is not refused
abbrev pub gathers : Plan → Result Command Refusal → Bool
gathers plan (Err refusal) = false
gathers plan (Ok command) = is_gathered plan command

-- ---- all lines

-- the replies to the lines after the plan line, each given by the laboratory after the lines before it
unfoldable pub later_replies : Laboratory → List (List ℕ) → List ℕ
later_replies lab [] = []
later_replies lab (line ∷ lines) =
    reply (line_answer lab (command_reading line))
    ++ later_replies (laboratory_after_line lab (command_reading line)) lines

-- the reply to the plan line, and if it is accepted the replies to the lines after it
abbrev pub input_replies : Result PlanLine Refusal → List (List ℕ) → List ℕ
input_replies (Err refusal) lines = reply (opening_answer (Err refusal))
input_replies (Ok plan) lines =
    reply (opening_answer (Ok plan)) ++ later_replies (opening_laboratory plan) lines

-- the reading of the plan line; none yet if there is no line and the input goes on
abbrev pub first_reading : Bool → List (List ℕ) → Option (Result PlanLine Refusal)
first_reading ended (first ∷ lines) = Some (plan_reading first)
first_reading true [] = Some (Err refusals.NoPlan)
first_reading false [] = None

-- the lines after the plan line
abbrev pub later_lines : List (List ℕ) → List (List ℕ)
later_lines [] = []
later_lines (first ∷ lines) = lines

-- the replies, given the reading of the plan line; none if it is not read yet
abbrev pub replies_by : Option (Result PlanLine Refusal) → List (List ℕ) → List ℕ
replies_by None lines = []
replies_by (Some reading) lines = input_replies reading lines

-- the replies to these lines, of an input that has ended or goes on
abbrev pub line_replies : Bool → List (List ℕ) → List ℕ
line_replies ended lines = replies_by (first_reading ended lines) (later_lines lines)

-- whether a line after the plan line is a crowd that is not refused, given the reading of the plan line
abbrev pub gathers_by : Option (Result PlanLine Refusal) → List (List ℕ) → Bool
gathers_by None lines = false
gathers_by (Some (Err refusal)) lines = false
gathers_by (Some (Ok first)) lines = list_any (λ line. gathers first.plan (command_reading line)) lines

-- whether one of these lines is a crowd that is not refused, of an input that has ended or goes on
abbrev pub lines_gather : Bool → List (List ℕ) → Bool
lines_gather ended lines = gathers_by (first_reading ended lines) (later_lines lines)

-- ---- the answers to bytes, with a limit of lines after the plan line

-- the answers to these bytes, of an input that has ended or goes on
unfoldable pub answers : ℕ → List ℕ → Bool → List ℕ
answers lines bytes ended = line_replies ended (take (suc lines) (lines_of bytes ended))

-- whether a line of these bytes, of an input that has ended or goes on, is a crowd that is not refused
unfoldable pub has_crowd : ℕ → List ℕ → Bool → Bool
has_crowd lines bytes ended = lines_gather ended (take (suc lines) (lines_of bytes ended))

-- whether the plan line, as read, is refused
abbrev pub is_refusal : Option (Result PlanLine Refusal) → Bool
is_refusal (Some (Err refusal)) = true
is_refusal (Some (Ok plan)) = false
is_refusal None = false

-- whether the plan line of these bytes is refused
unfoldable pub is_plan_refused : List ℕ → Bool → Bool
is_plan_refused bytes ended = is_refusal (first_reading ended (lines_of bytes ended))

-- whether there is a byte past the last line that is allowed
unfoldable pub has_more_lines : ℕ → List ℕ → Bool
has_more_lines lines bytes = nat_lt (suc lines) (length (lines_of bytes true))

-- ---- the answers with a limit of bytes, too

-- whether the input has ended within the limit of bytes
abbrev pub ends_within : ℕ → List ℕ → Bool → Bool
ends_within limit bytes ended = ended && nat_le (length bytes) limit

-- the answers to the first `limit` bytes of an input; if there are more bytes, the input has not ended there, so the
-- bytes after the last newline are not a line
unfoldable pub answers_within : ℕ → ℕ → List ℕ → Bool → List ℕ
answers_within lines limit bytes ended = answers lines (take limit bytes) (ends_within limit bytes ended)

-- whether a line of the first `limit` bytes of an input is a crowd that is not refused
unfoldable pub has_crowd_within : ℕ → ℕ → List ℕ → Bool → Bool
has_crowd_within lines limit bytes ended = has_crowd lines (take limit bytes) (ends_within limit bytes ended)

-- whether the plan line of the first `limit` bytes of an input is refused
unfoldable pub is_plan_refused_within : ℕ → List ℕ → Bool → Bool
is_plan_refused_within limit bytes ended = is_plan_refused (take limit bytes) (ends_within limit bytes ended)

-- whether there is a byte past the limit of lines or the limit of bytes
unfoldable pub has_byte_past_most : ℕ → ℕ → List ℕ → Bool
has_byte_past_most lines limit bytes = nat_lt limit (length bytes) || has_more_lines lines bytes

-- the number of replies, without the plan line's, to an input that has ended and whose plan line is accepted
unfoldable pub reply_count : ℕ → ℕ → List ℕ → ℕ
reply_count lines limit bytes =
    length (later_lines (take (suc lines) (lines_of (take limit bytes) (ends_within limit bytes true))))
