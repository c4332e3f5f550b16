-- `clap` finds in the arguments what it finds with the command of the definition.
use Rattle.std.proofs.Common.{ap, ◌∙◌}
use Rattle.clap.specs.Words.{app_of, is_simple, is_simple_and_free}
use Rattle.road_format.specs.Views.{texts}
use Rattle.road_serve.proofs.CommandLines.{found_by, free_line, read_by, simple_line, unread_by}
use Rattle.road_serve.proofs.arguments.matches_in.Goals as goal

pub returns-in-Ok-clause-read : goal.returns-in-Ok-clause-read
returns-in-Ok-clause-read c =
    let app_is = c.in_ok-command.ensures in
    read_by (app_of c.in_ok-command.command) (texts c.args.words.now) app_is (c.in-Ok.ensures.kinds (ap is_simple_and_free app_is ∙ free_line))

pub returns-in-Ok-clause-found : goal.returns-in-Ok-clause-found
returns-in-Ok-clause-found c =
    let app_is = c.in_ok-command.ensures in
    found_by (app_of c.in_ok-command.command) (texts c.args.words.now) _ app_is (c.in-Ok.ensures.matches (ap is_simple app_is ∙ simple_line)).0

pub returns-in-Err-clause-refused : goal.returns-in-Err-clause-refused
returns-in-Err-clause-refused c is =
    let app_is = c.in_ok-command.ensures in
    unread_by (app_of c.in_ok-command.command) (texts c.args.words.now) c.in-Err.error app_is (c.fault_of.ensures cc) (c.in-Err.ensures.kinds (ap is_simple_and_free app_is ∙ free_line))
