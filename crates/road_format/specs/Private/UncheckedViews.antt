-- The content of commands and plan lines before they are checked.
use Rattle.std.specs.Prelude.{ℕ}
use Rattle.road_format.specs.CommandGrammar as grammar
use Rattle.road_format.specs.PlanGrammar as plan_grammar
use Rattle.road_format.specs.Views.{command_view, texts}
use Rattle.road_format.specs.declared.command.Command.{Command}
use Rattle.road_format.specs.declared.plan_line.PlanLineParts.{PlanLineParts}
use Rattle.road_plan.specs.Plan.{plan_of}

-- the content of a command and its form
abbrev pub formed_view : ℕ × Command → ℕ × grammar.Command
formed_view read = (read.0, command_view read.1)

-- the content of a plan line before it is checked
abbrev pub parts_view : PlanLineParts → plan_grammar.PlanLine
parts_view line = record { names = texts line.names.items; plan = plan_of line.parts }
