-- Commands that are queries, as the code's calls see them.
use Rattle.std.specs.Prelude.{Option, None}
use Rattle.std.specs.Option.{option_and_then}
use Rattle.road_sheet.specs.Sheets.{Sheet}
use Rattle.road_replica.specs.declared.faults.ReplicaFault.{ReplicaFault}
use Rattle.road_format.specs.CommandGrammar as commands
use Rattle.road_format.specs.CommandGrammar.{Command}
use Rattle.road_format.specs.Replies.{Answer, Refused}
use Rattle.road_format.specs.declared.refusal.Refusal.TheVariants as refusals
use Rattle.road_commands.specs.Laboratory.{answer_unless, query_fault, replica_refusal, sheet_answer}

-- why a sheet refuses the query of a command, if it refuses it
abbrev pub fault_of_query : Sheet → Command → Option ReplicaFault
fault_of_query sheet (commands.Ask at query) = query_fault sheet query
fault_of_query sheet command = None

-- the answer of a sheet to the query of a command; for a command without a query it has no meaning
abbrev pub answer_of_query : Sheet → Command → Answer
answer_of_query sheet (commands.Ask at query) = sheet_answer sheet query
answer_of_query sheet command = Refused refusals.NoReplica

-- the answer of the replica's sheet to a command that is a query, which may be a refusal
abbrev pub answer_to_query : Sheet → Command → Answer
answer_to_query sheet command =
    answer_unless (option_and_then replica_refusal (fault_of_query sheet command)) (answer_of_query sheet command)
