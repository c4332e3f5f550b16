-- Which lines are plan lines: the first line of an input, with the names of the replicas and the plan of the road.
use Rattle.std.specs.Prelude.{ℕ, List, ◌&&◌, ◌==◌, Bool, length, nat_lt, nat_le, codes}
use Rattle.std.specs.Prelude.{if◌then◌else◌, Option, Some, None, Result, Ok, Err, option_and_then}
use Rattle.std.specs.List.{list_all}
use Rattle.std.specs.Set.{distinct_count}
use Rattle.std.specs.Str.{bytes_eq}
use Rattle.serde_json.specs.Data.{Data}
use Rattle.serde_json.specs.Find.{get, as_str}
use Rattle.road_plan.specs.Plan.{Plan}
use Rattle.road_plan.specs.Refusals.{fault_of_plan}
use Rattle.road_plan.specs.declared.parts.WordKind.{WordKind}
use Rattle.road_plan.specs.declared.parts.WordKind.TheVariants.{Seeded, Steady}
use Rattle.road_plan.specs.declared.limits.TheConstants.{MOST_REPLICAS}
use Rattle.road_format.specs.Reading.{value_of}
use Rattle.road_format.specs.Fields.{◌>>=◌, check, has_fields, is_name, list_at, pair_in}
use Rattle.road_format.specs.Fields.{long_number_in, number_at, number_in}
use Rattle.road_format.specs.Refusals.{plan_refusal, result_or_refusal}
use Rattle.road_format.specs.declared.refusal.Refusal.{Refusal}
use Rattle.road_format.specs.declared.refusal.Refusal.TheVariants.{NotJson, NotAPlan, Names}

-- a plan, and the texts of its replicas' names, in the order of their numbers
pub record PlanLine : Type 0 where
  pub names : List (List ℕ)
  pub plan : Plan

-- ---- where the words come from: a seed, or the text `steady`

-- steady words for the text `steady`, and none for any other text
abbrev pub steady_words : List ℕ → Option WordKind
steady_words text = if bytes_eq text (codes "steady") then Some Steady else None

-- a seed if there is a number, otherwise the words that the text names
abbrev pub words_from : Option ℕ → Option (List ℕ) → Option WordKind
words_from (Some seed) text = Some (Seeded seed)
words_from None None = None
words_from None (Some text) = steady_words text

-- where the words come from, given by a value
abbrev pub words_in : Data → Option WordKind
words_in d = words_from (long_number_in d) (as_str d)

-- where the words come from, given by the value at a field
abbrev pub words_at : List ℕ → Data → Option WordKind
words_at field d = get field d >>= words_in

-- ---- the fields

-- the numbers of cells of a road, its deleted zone and a zone, at `length`, `exit` and `zone`
unfoldable pub measures_in : Data → Option (ℕ × ℕ × ℕ)
measures_in d = do
  cells ← number_at (codes "length") d
  exit ← number_at (codes "exit") d
  width ← number_at (codes "zone") d
  Some (cells, exit, width)

-- the plan at these three fields and at `words`, `zones`, `inlets` and `detectors`
unfoldable pub plan_in : Data → Option Plan
plan_in d = do
  measures ← measures_in d
  words ← words_at (codes "words") d
  zones ← list_at pair_in (codes "zones") d
  inlets ← list_at pair_in (codes "inlets") d
  detectors ← list_at number_in (codes "detectors") d
  Some (record {
    cells = measures.0;
    exit = measures.1;
    width = measures.2;
    zones = zones;
    inlets = inlets;
    detectors = detectors;
    words = words;
  })

-- exactly the fields of a plan and the field `replicas`
unfoldable pub plan_line_in : Data → Option PlanLine
plan_line_in d = do
  exact ← check (has_fields 8 d)
  plan ← plan_in d
  names ← list_at as_str (codes "replicas") d
  Some (record { names = names; plan = plan })

-- ---- the refusals, in their order

-- whether these are 1 to 64 names of 1 to 64 bytes, all different
abbrev pub are_names : List (List ℕ) → Bool
are_names texts =
    nat_lt 0 (length texts) && nat_le (length texts) MOST_REPLICAS
    && list_all is_name texts
    && distinct_count bytes_eq texts == length texts

-- the first refusal of a plan line: of its names, then of its plan
abbrev pub refusal_of : PlanLine → Option Refusal
refusal_of line = if are_names line.names then option_and_then plan_refusal (fault_of_plan line.plan) else Some Names

-- the line, unless there is a refusal
abbrev pub line_or_refusal : PlanLine → Option Refusal → Result PlanLine Refusal
line_or_refusal line None = Ok line
line_or_refusal line (Some refusal) = Err refusal

-- the line, unless its names or its plan are refused
abbrev pub checked_line : PlanLine → Result PlanLine Refusal
checked_line line = line_or_refusal line (refusal_of line)

-- the plan line of a line, or its refusal. The causes in order: the line is not JSON, the value is not a plan line, the
-- names are refused, the plan is refused.
unfoldable pub plan_line_of : List ℕ → Result PlanLine Refusal
plan_line_of line =
    result_or_refusal NotJson (value_of line) (λ d. result_or_refusal NotAPlan (plan_line_in d) checked_line)
