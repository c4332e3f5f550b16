-- The arguments of the program. `clap` reads them as those of a command with two options.
use Rattle.std.specs.Prelude.{ℕ, List, Bool, true, ◌&&◌, if◌then◌else◌, codes}
use Rattle.std.specs.Prelude.{Option, Some, None, is_some, option_and_then}
use Rattle.std.specs.Option.{option_map_or}
use Rattle.std.specs.Str.Parse.{digits_value, without_leading_plus}
use Rattle.clap.specs.Simple.{on_top}
use Rattle.clap.specs.ValueTests.{is_unsigned_in}
use Rattle.clap.specs.Walk.{is_empty}
use Rattle.clap.specs.Words.{App, Row, Rule, fault_of, first_of, matches_of, new_app, new_rule, with_rule}
use Rattle.road_plan.specs.declared.limits.TheConstants.{MOST_WORKERS}

-- the option `--script`, which takes a value
abbrev pub script_rule : Rule
script_rule = record (new_rule (codes "script")) { long = Some (codes "script") }

-- the option `--workers`, which takes a value
abbrev pub workers_rule : Rule
workers_rule = record (new_rule (codes "workers")) { long = Some (codes "workers") }

-- the program's command: these options, and no argument for its own name
abbrev pub command_line : App
command_line =
    with_rule (with_rule (on_top (λ top. record top { no_binary_name = true })
    (new_app (codes "road_lab"))) script_rule) workers_rule

-- whether `clap` reads the arguments
unfoldable pub are_read : List (List ℕ) → Bool
are_read words = is_empty (fault_of command_line words)

-- what `clap` finds in them
unfoldable pub words_matches : List (List ℕ) → List Row
words_matches words = matches_of command_line words

-- the number of workers that a value names: in decimal digits, with or without a plus before them, from 1 to 16
unfoldable pub worker_count : List ℕ → Option ℕ
worker_count text =
    if is_unsigned_in 1 MOST_WORKERS text then Some (digits_value 10 (without_leading_plus text)) else None

-- the value of `--workers`, if the arguments have it
abbrev pub workers_value : List (List ℕ) → Option (List ℕ)
workers_value words = first_of (codes "workers") (words_matches words)

-- whether the arguments are accepted: `clap` reads them, and a value of `--workers` names a number of workers
unfoldable pub are_accepted : List (List ℕ) → Bool
are_accepted words =
    are_read words && option_map_or (λ text. is_some (worker_count text)) (workers_value words) true

-- the path of the script, if the arguments name one
unfoldable pub script_of : List (List ℕ) → Option (List ℕ)
script_of words = first_of (codes "script") (words_matches words)

-- the number of workers, if the arguments name one
unfoldable pub workers_of : List (List ℕ) → Option ℕ
workers_of words = option_and_then worker_count (workers_value words)
