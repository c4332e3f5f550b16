-- The definitions that a proof unfolds to compute the grammar of lines, and the texts of replies, on literals.
use Rattle.std.specs.Prelude.{⊤}
use Rattle.std.specs.Str.{is_utf8, chars}
use Rattle.std.specs.Fmt.{digits}
use Rattle.serde_json.proofs.OnLiterals.{serde_json_on_literals}
use Rattle.road_format.specs.Reading.{value_of}
use Rattle.road_format.specs.CommandGrammar.{count_in, diagram_in, query_of_name, edit_command_in, withdraw_in, replica_command_of_name, import_in, beyond_in, command_at, crowd_in, command_of_name, command_in, command_of}
use Rattle.road_format.specs.EditGrammar as edits
use Rattle.road_format.specs.PlanGrammar.{measures_in, plan_in, plan_line_in, plan_line_of}
use Rattle.road_format.specs.Replies.{reply}

unfoldable pub road_format_on_literals : ⊤
unfolding serde_json_on_literals digits is_utf8 chars value_of edits.stamp_in edits.edit_in count_in diagram_in query_of_name edit_command_in withdraw_in replica_command_of_name import_in beyond_in command_at crowd_in command_of_name command_in command_of measures_in plan_in plan_line_in plan_line_of reply
road_format_on_literals = tt
