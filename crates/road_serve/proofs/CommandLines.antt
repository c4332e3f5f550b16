-- What `clap` makes of the arguments, and the arguments of some command lines.
use Rattle.std.proofs.Common.{◌≡◌, ◌≢◌, inl, inr, ℕ, List, length, [], ◌∷◌, Bool, true, false, ◌&&◌, Option, Some, None, is_some, codes, refl, ap, ap₂, sym, ◌∙◌}
use Rattle.std.specs.Prelude.{option_and_then}
use Rattle.std.specs.Option.{option_map_or}
use Rattle.std.proofs.Math.Dec.{eqb-suc-zero}
use Rattle.clap.proofs.OnLiterals.{clap_on_literals}
use Rattle.clap.proofs.WalkLemmas.{first_value-rows}
use Rattle.clap.specs.Simple.{on_top}
use Rattle.clap.specs.Walk.{is_empty}
use Rattle.clap.specs.Words.{App, HasKind, IsAmong, Kinds, Row, fault_of, first_of, first_value, is_simple, is_simple_and_free, kind_of, matches_of, rows_of}
use Rattle.clap.specs.declared.error.Error.{Error}
use Rattle.clap.specs.declared.parser.matches.Found.{Found}
use Rattle.clap.specs.declared.error.kind.ErrorKind.{ErrorKind}
use Rattle.clap.specs.declared.error.kind.ErrorKind.TheVariants.{OutOfMemory}
use Rattle.road_serve.specs.Arguments.{are_accepted, are_read, command_line, words_matches, script_of, worker_count, workers_of, workers_value}

-- ---- the program's command

-- the command without an argument for the program's own name
abbrev pub named_less : App → App
named_less a = on_top (λ top. record top { no_binary_name = true }) a

pub simple_line : is_simple command_line ≡ true
unfolding clap_on_literals
simple_line = refl

pub free_line : is_simple_and_free command_line ≡ true
unfolding clap_on_literals
free_line = refl

-- ---- arguments, by what `clap` read and by the value of `--workers`

-- whether arguments are accepted, given whether `clap` found no fault, and given the value of `--workers`
abbrev is_accepted : Bool → Option (List ℕ) → Bool
is_accepted faultless value = faultless && option_map_or (λ text. is_some (worker_count text)) value true

-- what `clap` found in arguments that it read; the value of `--workers` is part of it
pub record IsRead (words : List (List ℕ)) (rows : List Row) (text : Option (List ℕ)) : Type 0 where
  pub read : are_read words ≡ true
  pub found : rows ≡ words_matches words
  pub value : first_of (codes "workers") rows ≡ text

value_read : (words : List (List ℕ)) (rows : List Row) (text : Option (List ℕ)) → IsRead words rows text → workers_value words ≡ text
value_read words rows text read = ap (first_of (codes "workers")) (sym read.found) ∙ read.value

accepted_as : (words : List (List ℕ)) (rows : List Row) (text : Option (List ℕ)) → IsRead words rows text → are_accepted words ≡ is_accepted true text
unfolding are_accepted
accepted_as words rows text read = ap₂ is_accepted read.read (value_read words rows text read)

workers_as : (words : List (List ℕ)) (rows : List Row) (text : Option (List ℕ)) → IsRead words rows text → workers_of words ≡ option_and_then worker_count text
unfolding workers_of
workers_as words rows text read = ap (option_and_then worker_count) (value_read words rows text read)

pub accepted_alone : (words : List (List ℕ)) (rows : List Row) → IsRead words rows None → are_accepted words ≡ true
accepted_alone words rows read = accepted_as words rows None read

pub no_workers : (words : List (List ℕ)) (rows : List Row) → IsRead words rows None → None ≡ workers_of words
no_workers words rows read = sym (workers_as words rows None read)

pub accepted_with : (words : List (List ℕ)) (rows : List Row) (text : List ℕ) (n : ℕ) → IsRead words rows (Some text) → Some n ≡ worker_count text → are_accepted words ≡ true
accepted_with words rows text n read is = accepted_as words rows (Some text) read ∙ ap is_some (sym is)

pub some_workers : (words : List (List ℕ)) (rows : List Row) (text : List ℕ) (n : ℕ) → IsRead words rows (Some text) → Some n ≡ worker_count text → Some n ≡ workers_of words
some_workers words rows text n read is = is ∙ sym (workers_as words rows (Some text) read)

pub refused_count : (words : List (List ℕ)) (rows : List Row) (text : List ℕ) → IsRead words rows (Some text) → None ≡ worker_count text → are_accepted words ≡ false
refused_count words rows text read is = accepted_as words rows (Some text) read ∙ ap is_some (sym is)

pub refused_words : (words : List (List ℕ)) → are_read words ≡ false → are_accepted words ≡ false
unfolding are_accepted
refused_words words faulty = ap (λ (b : Bool). is_accepted b (workers_value words)) faulty

pub path_found : (words : List (List ℕ)) (found : Found) → rows_of found ≡ words_matches words → first_value found (codes "script") ≡ script_of words
unfolding script_of
path_found words found is = first_value-rows found (codes "script") ∙ ap (first_of (codes "script")) is

pub workers_found : (found : Found) (text : Option (List ℕ)) → first_value found (codes "workers") ≡ text → first_of (codes "workers") (rows_of found) ≡ text
workers_found found text is = sym (first_value-rows found (codes "workers")) ∙ is

-- ---- arguments, by the command that was built

pub read_by : (a : App) (words : List (List ℕ)) → a ≡ command_line → fault_of a words ≡ [] → are_read words ≡ true
unfolding are_read
read_by a words is none = ap is_empty (ap (λ (x : App). fault_of x words) (sym is) ∙ none)

pub found_by : (a : App) (words : List (List ℕ)) (rows : List Row) → a ≡ command_line → rows ≡ matches_of a words → rows ≡ words_matches words
unfolding words_matches
found_by a words rows is found = found ∙ ap (λ (x : App). matches_of x words) is

some_kind : (kind : ErrorKind) (kinds : Kinds) → IsAmong kind kinds → is_empty kinds ≡ false
some_kind kind [] among = absurd among
some_kind kind (first ∷ kinds) among = eqb-suc-zero (length kinds)

by_kinds : (kinds : Kinds) (error : Error) → kind_of error ≢ OutOfMemory → HasKind kinds error → is_empty kinds ≡ false
by_kinds kinds error other (inl memory) = absurd (other memory)
by_kinds kinds error other (inr among) = some_kind (kind_of error) kinds among

pub unread_by : (a : App) (words : List (List ℕ)) (error : Error) → a ≡ command_line → kind_of error ≢ OutOfMemory → HasKind (fault_of a words) error → are_read words ≡ false
unfolding are_read
unread_by a words error is other has = ap (λ (x : App). is_empty (fault_of x words)) (sym is) ∙ by_kinds (fault_of a words) error other has

-- ---- worked command lines; `tests/process` has more

a_path : script_of (codes "--script" ∷ codes "a.jsonl" ∷ []) ≡ Some (codes "a.jsonl")
unfolding clap_on_literals script_of words_matches
a_path = refl

three_workers : workers_of (codes "--workers=+03" ∷ []) ≡ Some 3
unfolding clap_on_literals workers_of worker_count words_matches
three_workers = refl

twice : are_accepted (codes "--script" ∷ codes "a" ∷ codes "--script" ∷ codes "a" ∷ []) ≡ false
unfolding clap_on_literals are_accepted words_matches are_read worker_count
twice = refl
