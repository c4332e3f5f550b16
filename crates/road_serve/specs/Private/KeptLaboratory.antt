-- The laboratory that is kept after one line, and whether the held line would be a crowd for it.
use Rattle.std.specs.Prelude.{Option, Some, None, Result, Ok, Err, Bool, false}
use Rattle.road_format.specs.CommandGrammar.{Command, command_of}
use Rattle.road_format.specs.PlanGrammar.{PlanLine}
use Rattle.road_format.specs.declared.refusal.Refusal.{Refusal}
use Rattle.road_commands.specs.Laboratory.{Laboratory, laboratory_after, laboratory_of_winners, opening_laboratory}
use Rattle.road_serve.specs.Answers.{gathers}
use Rattle.road_serve.specs.Dialogue.{Dialogue}
use Rattle.road_serve.specs.Private.Readings.{read_held}

-- the laboratory after the plan line, if it is accepted
abbrev pub opened_laboratory : Result PlanLine Refusal → Option Laboratory
opened_laboratory (Err refusal) = None
opened_laboratory (Ok plan) = Some (opening_laboratory plan)

-- the laboratory kept after a later line is that of winners; a refused line changes nothing
abbrev pub kept_after_line : Laboratory → Result Command Refusal → Laboratory
kept_after_line kept (Err refusal) = kept
kept_after_line kept (Ok command) = laboratory_of_winners (laboratory_after kept command)

-- whether a line, as read, is a crowd that is not refused, if there is a laboratory
abbrev pub gathers_at : Option Laboratory → Result Command Refusal → Bool
gathers_at None reading = false
gathers_at (Some kept) reading = gathers kept.world.plan reading

-- whether the held bytes, read as a line, are a crowd that is not refused
abbrev pub holds_crowd : Dialogue → Bool
holds_crowd d = gathers_at d.laboratory (read_held command_of d.line)
