-- The command makes no more writes than the line has bytes.
use Rattle.std.proofs.Common.{◌∙◌, ap, option_map, sym}
use Rattle.serde_json.specs.View.{view}
use Rattle.road_format.proofs.FewWrites.{line_few}
use Rattle.road_format.proofs.command_line.read_command.Goals as goal

pub returns-clause-shares : goal.returns-clause-shares
returns-clause-shares c =
    line_few c.args.line.now (view c.in-Some.value) c.command_of_value.result (sym c.in_ok-value.ensures.value ∙ ap (option_map view) c.in-Some.is) c.command_of_value.ensures
