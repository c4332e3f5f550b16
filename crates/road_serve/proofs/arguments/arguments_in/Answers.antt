-- The content of the arguments, from what `clap` finds in them.
use Rattle.std.proofs.Common.{Some, None, sym, ◌∙◌}
use Rattle.std.proofs.lemmas.Result.{err_from_is_err_and}
use Rattle.clap.specs.Words.{found_of, rows_of}
use Rattle.road_format.specs.Views.{texts}
use Rattle.road_serve.proofs.CommandLines.{IsRead, accepted_alone, accepted_with, no_workers, path_found, refused_count, refused_words, some_workers, workers_found}
use Rattle.road_serve.proofs.arguments.arguments_in.Goals as goal

pub returns-in_err-matches-clause-refused : goal.returns-in_err-matches-clause-refused
returns-in_err-matches-clause-refused c is =
    let p = err_from_is_err_and c.from_residual.result c.from_residual.ensures.1 in
    let named = p.1 in
    let same = p.2 in
    refused_words (texts c.args.words.now) (c.in_err-matches.ensures.refused cc)

-- the arguments have no `--workers`

pub returns-in-None-clause-accepted : goal.returns-in-None-clause-accepted
returns-in-None-clause-accepted c =
    let found = found_of c.in_ok-matches.matches in
    let read : IsRead (texts c.args.words.now) (rows_of found) None =
    record { read = c.in_ok-matches.ensures.read; found = c.in_ok-matches.ensures.found; value = workers_found found None (sym c.in-None.ensures) } in
    accepted_alone (texts c.args.words.now) (rows_of found) read

pub returns-in-None-clause-script : goal.returns-in-None-clause-script
returns-in-None-clause-script c =
    c.get_str-script.ensures ∙ path_found (texts c.args.words.now) (found_of c.in_ok-matches.matches) c.in_ok-matches.ensures.found

pub returns-in-None-clause-workers : goal.returns-in-None-clause-workers
returns-in-None-clause-workers c =
    let found = found_of c.in_ok-matches.matches in
    let read : IsRead (texts c.args.words.now) (rows_of found) None =
    record { read = c.in_ok-matches.ensures.read; found = c.in_ok-matches.ensures.found; value = workers_found found None (sym c.in-None.ensures) } in
    no_workers (texts c.args.words.now) (rows_of found) read

-- the arguments have `--workers`

pub returns-in-Some-count_in-clause-accepted : goal.returns-in-Some-count_in-clause-accepted
returns-in-Some-count_in-clause-accepted c =
    let found = found_of c.in_ok-matches.matches in
    let text = c.in-Some.text.now in
    let read : IsRead (texts c.args.words.now) (rows_of found) (Some text) =
    record { read = c.in_ok-matches.ensures.read; found = c.in_ok-matches.ensures.found; value = workers_found found (Some text) (sym c.in-Some.ensures) } in
    accepted_with (texts c.args.words.now) (rows_of found) text c.in-Some-count_in.count read c.in-Some-count_in.ensures.number

pub returns-in-Some-count_in-clause-script : goal.returns-in-Some-count_in-clause-script
returns-in-Some-count_in-clause-script c =
    c.get_str-script.ensures ∙ path_found (texts c.args.words.now) (found_of c.in_ok-matches.matches) c.in_ok-matches.ensures.found

pub returns-in-Some-count_in-clause-workers : goal.returns-in-Some-count_in-clause-workers
returns-in-Some-count_in-clause-workers c =
    let found = found_of c.in_ok-matches.matches in
    let text = c.in-Some.text.now in
    let read : IsRead (texts c.args.words.now) (rows_of found) (Some text) =
    record { read = c.in_ok-matches.ensures.read; found = c.in_ok-matches.ensures.found; value = workers_found found (Some text) (sym c.in-Some.ensures) } in
    some_workers (texts c.args.words.now) (rows_of found) text c.in-Some-count_in.count read c.in-Some-count_in.ensures.number

pub returns-clause-refused : goal.returns-clause-refused
returns-clause-refused c is =
    let found = found_of c.in_ok-matches.matches in
    let text = c.in-Some.text.now in
    let read : IsRead (texts c.args.words.now) (rows_of found) (Some text) =
    record { read = c.in_ok-matches.ensures.read; found = c.in_ok-matches.ensures.found; value = workers_found found (Some text) (sym c.in-Some.ensures) } in
    refused_count (texts c.args.words.now) (rows_of found) text read c.in-None-count_in.ensures.number
