-- Worked examples, from the bytes of an input to the bytes of its answers: the check fails if a definition is wrong.
-- The words are the steady ones.
use Rattle.std.proofs.Common.{◌≡◌, ◌≤◌, ◌<◌, ◌+◌, ◌^◌, ℕ, zero, suc, List, [], ◌∷◌, ◌++◌, take, length, true, false, codes, refl, ap, ◌∙◌, arith, length-append}
use Rattle.std.specs.Prelude.{replicate, nat_le}
use Rattle.std.proofs.lemmas.Bool.{lt-ltb, le-leb}
use Rattle.std.proofs.lemmas.List.{take_all, length-replicate}
use Rattle.lattice_core.specs.Sets.{empty, items}
use Rattle.lattice_core.proofs.SetElements.{items-empty}
use Rattle.road_format.proofs.OnLiterals.{road_format_on_literals}
use Rattle.road_plan.specs.Plan.{Plan}
use Rattle.road_plan.specs.declared.limits.TheConstants.{LONGEST_LINE, MOST_LINES, MOST_BYTES}
use Rattle.road_plan.specs.declared.parts.WordKind.TheVariants.{Steady}
use Rattle.road_scenario.specs.declared.edit.Edit.{Edit}
use Rattle.road_scenario.specs.Edits.{Edits, edit_cmp}
use Rattle.road_scenario.specs.Settings.{settings_in}
use Rattle.road_scenario.proofs.NoEdits.{winners-empty}
use Rattle.road_ends.specs.Row.{row}
use Rattle.road_cells.specs.Gap.{free_before}
use Rattle.road_format.specs.Cut.{newline, pieces_with_byte, pieces_of}
use Rattle.road_format.specs.Replies.{Open, Refused, Horizon, Cells as CellsReply, reply}
use Rattle.road_format.specs.declared.refusal.Refusal.TheVariants as refusals
use Rattle.road_sheet.specs.Shown.{row_at}
use Rattle.road_serve.specs.Answers.{is_long, later_replies, answers, answers_within}

-- ---- the limits of `serve`

most_lines : MOST_LINES ≡ 1000000
most_lines = refl

most_bytes : MOST_BYTES ≡ 2 ^ 32
most_bytes = refl

-- ---- answers

-- a road of 12 cells whose cars are never slowed by chance, and three replicas
unfoldable free_road : List ℕ
free_road = codes "{\"detectors\":[5],\"exit\":1,\"inlets\":[[0,65536]],\"length\":12,\"replicas\":[\"A\",\"B\",\"C\"],\"words\":\"steady\",\"zone\":12,\"zones\":[[2,0]]}\n"

-- queries, refusals of each kind, and a last line without a newline
unfoldable queries : List ℕ
queries = codes "{\"cells\":{\"at\":\"A\",\"step\":0}}\n{\"cells\":{\"at\":\"A\",\"step\":1}}\n\n{\"advance\":{\"at\":\"A\",\"to\":6}}\n{\"advance\":{\"at\":\"A\",\"to\":3}}\n{\"cells\":{\"step\":6,\"at\":\"A\"}}\n{\"cells\":{\"at\":\"B\",\"step\":6}}\n{\"advance\":{\"at\":\"D\",\"to\":1}}\n{\"advance\":{\"at\":\"A\",\"to\":1048577}}\n{\"advance\":{\"at\":\"A\",\"to\":1,\"form\":1}}\n{\"cells\":{\"at\":\"A\",\"step\":2}}"

abbrev free_plan : Plan
free_plan = record { cells = 12; exit = 1; width = 12; zones = (2, 0) ∷ []; inlets = (0, 65536) ∷ []; detectors = 5 ∷ []; words = Steady }

-- if nothing is edited, a row is that of the plan's defaults
unedited : (p : Plan) (step : ℕ) → row_at p empty step ≡ row p (settings_in p []) step
unfolding row_at
unedited p step = ap (λ (es : List Edit). row p (settings_in p es) step) (ap (λ (s : Edits). items s) winners-empty ∙ items-empty edit_cmp)

at_zero : row free_plan (settings_in free_plan []) 0 ≡ codes "............"
unfolding free_before
at_zero = refl

at_two : row free_plan (settings_in free_plan []) 2 ≡ codes "0..2........"
unfolding free_before
at_two = refl

at_six : row free_plan (settings_in free_plan []) 6 ≡ codes "0..2...2...."
unfolding free_before
at_six = refl

-- the answers, with the requested rows
abbrev with_rows : List ℕ → List ℕ → List ℕ → List ℕ
with_rows first six two =
    reply (Open 3) ++ (reply (CellsReply first) ++ (reply (Refused refusals.NotSimulated) ++ (reply (Refused refusals.NotJson) ++ (reply (Horizon 6) ++ (reply (Horizon 6)
    ++ (reply (CellsReply six) ++ (reply (Refused refusals.NotSimulated) ++ (reply (Refused refusals.NoReplica) ++ (reply (Refused refusals.Horizon)
    ++ (reply (Refused refusals.NotACommand) ++ (reply (CellsReply two) ++ [])))))))))))

as_rows : answers_within 1000000 (2 ^ 32) (free_road ++ queries) true ≡ with_rows (row_at free_plan empty 0) (row_at free_plan empty 6) (row_at free_plan empty 2)
unfolding road_format_on_literals later_replies answers answers_within free_road queries
as_rows = refl

as_text : with_rows (codes "............") (codes "0..2...2....") (codes "0..2........") ≡ codes "{\"open\":3}\n{\"cells\":\"............\"}\n{\"refused\":\"NotSimulated\"}\n{\"refused\":\"not json\"}\n{\"horizon\":6}\n{\"horizon\":6}\n{\"cells\":\"0..2...2....\"}\n{\"refused\":\"NotSimulated\"}\n{\"refused\":\"NoReplica\"}\n{\"refused\":\"Horizon\"}\n{\"refused\":\"not a command\"}\n{\"cells\":\"0..2........\"}\n"
unfolding road_format_on_literals
as_text = refl

answers_to_queries : answers_within 1000000 (2 ^ 32) (free_road ++ queries) true ≡ codes "{\"open\":3}\n{\"cells\":\"............\"}\n{\"refused\":\"NotSimulated\"}\n{\"refused\":\"not json\"}\n{\"horizon\":6}\n{\"horizon\":6}\n{\"cells\":\"0..2...2....\"}\n{\"refused\":\"NotSimulated\"}\n{\"refused\":\"NoReplica\"}\n{\"refused\":\"Horizon\"}\n{\"refused\":\"not a command\"}\n{\"cells\":\"0..2........\"}\n"
answers_to_queries =
    as_rows ∙ ap (λ (r : List ℕ). with_rows r (row_at free_plan empty 6) (row_at free_plan empty 2)) (unedited free_plan 0 ∙ at_zero)
    ∙ ap (λ (r : List ℕ). with_rows (codes "............") r (row_at free_plan empty 2)) (unedited free_plan 6 ∙ at_six)
    ∙ ap (λ (r : List ℕ). with_rows (codes "............") (codes "0..2...2....") r) (unedited free_plan 2 ∙ at_two) ∙ as_text

-- while the input goes on, the piece after the last newline is not a line yet
a_piece_is_no_line_yet : answers_within 1000000 (2 ^ 32) (free_road ++ codes "{\"cells\":{\"at\":\"A\",\"step\":0}}") false ≡ codes "{\"open\":3}\n"
unfolding road_format_on_literals later_replies answers answers_within free_before free_road
a_piece_is_no_line_yet = refl

an_empty_input : answers_within 1000000 (2 ^ 32) [] true ≡ codes "{\"refused\":\"no plan\"}\n"
unfolding road_format_on_literals later_replies answers answers_within
an_empty_input = refl

nothing_yet : answers_within 1000000 (2 ^ 32) [] false ≡ []
unfolding answers answers_within
nothing_yet = refl

-- a plan line that is refused ends the run
a_refused_plan : answers_within 1000000 (2 ^ 32) (codes "{}\n{\"advance\":{\"at\":\"A\",\"to\":6}}\n") true ≡ codes "{\"refused\":\"not a plan\"}\n"
unfolding road_format_on_literals later_replies answers answers_within
a_refused_plan = refl

-- no line past the limit of lines is answered
one_line_as_row : answers_within 1 1000 (free_road ++ queries) true ≡ reply (Open 3) ++ (reply (CellsReply (row_at free_plan empty 0)) ++ [])
unfolding road_format_on_literals later_replies answers answers_within free_road queries
one_line_as_row = refl

one_line_as_text : reply (Open 3) ++ (reply (CellsReply (codes "............")) ++ []) ≡ codes "{\"open\":3}\n{\"cells\":\"............\"}\n"
unfolding road_format_on_literals
one_line_as_text = refl

one_line_only : answers_within 1 1000 (free_road ++ queries) true ≡ codes "{\"open\":3}\n{\"cells\":\"............\"}\n"
one_line_only = one_line_as_row ∙ ap (λ (r : List ℕ). reply (Open 3) ++ (reply (CellsReply r) ++ [])) (unedited free_plan 0 ∙ at_zero) ∙ one_line_as_text

-- each refusal of a plan line ends the run
too_short : answers_within 1000000 (2 ^ 32) (codes "{\"detectors\":[5],\"exit\":1,\"inlets\":[[0,65536]],\"length\":7,\"replicas\":[\"A\"],\"words\":7,\"zone\":12,\"zones\":[[2,0]]}") true ≡ codes "{\"refused\":\"Length\"}\n"
unfolding road_format_on_literals later_replies answers answers_within
too_short = refl

two_names_alike : answers_within 1000000 (2 ^ 32) (codes "{\"detectors\":[5],\"exit\":1,\"inlets\":[[0,65536]],\"length\":7,\"replicas\":[\"A\",\"A\"],\"words\":7,\"zone\":12,\"zones\":[[2,0]]}\n") true ≡ codes "{\"refused\":\"Names\"}\n"
unfolding road_format_on_literals later_replies answers answers_within
two_names_alike = refl

-- ---- a line that is too long

spaces_cut : (n : ℕ) → pieces_of (replicate n 32 ++ newline ∷ []) ≡ (replicate n 32 ∷ [], [])
spaces_cut zero = refl
spaces_cut (suc n) = ap (pieces_with_byte 32) (spaces_cut n)

spaces_are_long : (n : ℕ) → LONGEST_LINE < n → is_long (replicate n 32) ≡ true
spaces_are_long n long = lt-ltb LONGEST_LINE (length (replicate n 32)) (omega (arith, long, length-replicate {A = ℕ} n 32))

no_more : (lines : ℕ) → take {A = List ℕ} lines [] ≡ []
no_more zero = refl
no_more (suc lines) = refl

-- a plan line of too many spaces, followed by a newline
too_many_spaces : (n lines limit : ℕ) → LONGEST_LINE < n → n + 1 ≤ limit → answers_within lines limit (replicate n 32 ++ newline ∷ []) true ≡ reply (Refused refusals.LineTooLong)
unfolding answers answers_within reply
too_many_spaces n lines limit long within =
    let input : List ℕ = replicate n 32 ++ newline ∷ [] in
    let size : length input ≡ n + 1 = length-append (replicate n 32) (newline ∷ []) ∙ ap (λ (k : ℕ). k + 1) (length-replicate {A = ℕ} n 32) in
    let all : take limit input ≡ input = take_all limit input (omega (arith, size, within)) in
    let ended : nat_le (length input) limit ≡ true = le-leb (length input) limit (omega (arith, size, within)) in
    rw (all, ended, spaces_cut n, no_more lines, spaces_are_long n long) refl

said_too_long : reply (Refused refusals.LineTooLong) ≡ codes "{\"refused\":\"line too long\"}\n"
unfolding road_format_on_literals
said_too_long = refl

a_line_that_is_too_long : answers_within 1000000 (2 ^ 32) (replicate 65537 32 ++ newline ∷ []) true ≡ codes "{\"refused\":\"line too long\"}\n"
a_line_that_is_too_long = too_many_spaces 65537 1000000 (2 ^ 32) (omega arith) (omega arith) ∙ said_too_long
