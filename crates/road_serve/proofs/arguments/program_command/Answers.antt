-- The command that `clap` is given is the one of the definition.
use Rattle.std.proofs.Common.{rules, ◌≡◌, ◌∙◌, ap, ap₂}
use Rattle.clap.specs.Simple.{app_of_fields}
use Rattle.clap.specs.Words.{app_of, rule_of, with_rule}
use Rattle.road_serve.specs.Arguments.{script_rule, workers_rule}
use Rattle.road_serve.proofs.CommandLines.{named_less}
use Rattle.road_serve.proofs.arguments.program_command.Goals as goal

pub returns : goal.returns
returns c =
    let script_is : rule_of c.long-script.result ≡ script_rule = search rules in
    let workers_is : rule_of c.long-workers.result ≡ workers_rule = search rules in
    let top_is : app_of c.no_binary_name.result ≡ named_less (app_of c.new-3.result) = ap app_of_fields c.no_binary_name.ensures in
    let first_is = c.in_ok-arg.ensures.shape (search rules) ∙ ap₂ with_rule (top_is ∙ ap named_less c.new-3.ensures.app) script_is in
    c.in_ok-command.ensures.shape (search rules) ∙ ap₂ with_rule first_is workers_is
