-- The content of the code's values, with their texts as bytes.
use Rattle.std.specs.Prelude.{◌≡◌, ℕ, List, map, Option, Some, None, Result, Ok, Err, String, string_bytes, Vec}
use Rattle.std.specs.declared.alloc.Global.{Global}
use Rattle.road_format.specs.CommandGrammar as grammar
use Rattle.road_format.specs.PlanGrammar as plan_grammar
use Rattle.road_format.specs.Replies as replies
use Rattle.road_format.specs.declared.refusal.Refusal.{Refusal}
use Rattle.road_format.specs.declared.command.Command.{Command}
use Rattle.road_format.specs.declared.command.Command.TheVariants as commands
use Rattle.road_format.specs.declared.plan_line.PlanLine.{PlanLine}
use Rattle.road_cells.specs.declared.car.Car.{Car}
use Rattle.road_scenario.specs.declared.edit.Edit.{Edit}
use Rattle.road_format.specs.declared.answer.Answer.{Answer}
use Rattle.road_format.specs.declared.answer.Answer.TheVariants as answers

-- the bytes of each text
abbrev pub texts : List (String Global) → List (List ℕ)
texts names = map string_bytes names

-- the edits of each share
abbrev pub shares_view : List (Vec Edit Global) → List (List Edit)
shares_view shares = map (λ share. share.items) shares

-- the content of a command
abbrev pub command_view : Command → grammar.Command
command_view (commands.Edit at object step value) = grammar.Edit (string_bytes at) object step value
command_view (commands.Withdraw at object step) = grammar.Withdraw (string_bytes at) object step
command_view (commands.Advance at to) = grammar.Advance (string_bytes at) to
command_view (commands.Cells at step) = grammar.Ask (string_bytes at) (grammar.Cells step)
command_view (commands.Cars at step) = grammar.Ask (string_bytes at) (grammar.Cars step)
command_view (commands.Count at detector from to) = grammar.Ask (string_bytes at) (grammar.Count detector from to)
command_view (commands.Diagram at from to) = grammar.Ask (string_bytes at) (grammar.Diagram from to)
command_view (commands.Scenario at) = grammar.Ask (string_bytes at) grammar.Scenario
command_view (commands.Import at edits) = grammar.Import (string_bytes at) edits.items
command_view (commands.Send at name) = grammar.Send (string_bytes at) (string_bytes name)
command_view (commands.Heads at name) = grammar.Heads (string_bytes at) (string_bytes name)
command_view (commands.Beyond at heads name) =
    grammar.Beyond (string_bytes at) (string_bytes heads) (string_bytes name)
command_view (commands.Take at message) = grammar.Take (string_bytes at) (string_bytes message)
command_view (commands.Crowd shares to) = grammar.Crowd (shares_view shares.items) to

-- the content of a plan line
abbrev pub plan_line_view : PlanLine → plan_grammar.PlanLine
plan_line_view line = record { names = texts line.names.items; plan = line.plan }

-- the content of a car: number, cell, speed
abbrev pub car_view : Car → ℕ × ℕ × ℕ
car_view car = (car.number, car.cell, car.speed)

-- the content of an answer
abbrev pub answer_view : Answer → replies.Answer
answer_view (answers.Open replicas) = replies.Open replicas
answer_view (answers.Refused refusal) = replies.Refused refusal
answer_view (answers.Horizon horizon) = replies.Horizon horizon
answer_view (answers.Cells row) = replies.Cells (string_bytes row)
answer_view (answers.Cars cars) = replies.Cars (map car_view cars.items)
answer_view (answers.Counted cars speeds) = replies.Counted cars speeds
answer_view (answers.Rows rows) = replies.Rows (texts rows.items)
answer_view (answers.Stamped stamp) = replies.Stamped stamp
answer_view (answers.Edits edits) = replies.Edits edits.items
answer_view (answers.Touched step) = replies.Touched step
answer_view (answers.Sent message size) = replies.Sent (string_bytes message) size
answer_view (answers.Heads message heads) = replies.Heads (string_bytes message) heads.items
answer_view (answers.Delta message edits) = replies.Delta (string_bytes message) edits.items
answer_view (answers.Crowd edits journal row) = replies.Crowd edits.items journal (string_bytes row)

-- ---- the returned value, compared with the grammar

-- the grammar refuses in the same way; there is no condition if memory ran out, which is not a refusal
abbrev pub Refuses : {Y : Type 0} → Option Refusal → Result Y Refusal → Type 0
Refuses None given = Unit {0}
Refuses (Some refusal) given = given ≡ Err refusal

-- a returned value is the grammar's, and a returned fault is that of the grammar's refusal
abbrev pub Gives : {X Y F : Type 0} → (X → Y) → (F → Option Refusal) → Result X F → Result Y Refusal → Type 0
Gives view refusal_of (Ok x) given = given ≡ Ok (view x)
Gives view refusal_of (Err fault) given = Refuses (refusal_of fault) given
