-- An import is the event of its edits, the name of a message is its text, a query uses no crew, and a command that is
-- not a crowd gathers none.
use Rattle.std.proofs.Common.{IsSome, rules, subst}
use Rattle.road_commands.proofs.NamedReplicas.{of_outcome, of_query}
use Rattle.road_commands.proofs.Outcomes.{import_is}
use Rattle.road_format.specs.CommandGrammar.{query_of}
use Rattle.road_format.specs.Views.{command_view}
use Rattle.road_commands.specs.Laboratory.{Outcome}
use Rattle.road_commands.specs.Private.Outcomes.{IsOutcome}
use Rattle.road_commands.proofs.laboratory.Laboratory.answer_at.Goals as goal

pub returns-in-Import : goal.returns-in-Import
returns-in-Import g c =
    let Done : Outcome → Type 0 = λ o. IsOutcome o c.change-in-Import.result c.args.self.now c.change-in-Import.new.self (g.C.Crew.times_gone c.args.crew.now) (g.C.Crew.times_gone c.change-in-Import.new.crew) in
    rw c.in-Import.is (of_outcome _ _ _ _ _ _ _ (subst Done (import_is c.args.self.now c.args.at c.in-Import.edits) c.change-in-Import.ensures))

pub returns-in-Send : goal.returns-in-Send
returns-in-Send g c = rw c.in-Send.is (of_outcome _ _ _ _ _ _ _ (c.make.ensures (g.C.Crew.times_gone c.args.crew.now)))

pub returns-in-Heads : goal.returns-in-Heads
returns-in-Heads g c = rw c.in-Heads.is (of_outcome _ _ _ _ _ _ _ (c.make-in-Heads.ensures (g.C.Crew.times_gone c.args.crew.now)))

pub returns-in-Beyond : goal.returns-in-Beyond
returns-in-Beyond g c = rw c.in-Beyond.is (of_outcome _ _ _ _ _ _ _ (rw c.deref.ensures at (c.beyond.ensures (g.C.Crew.times_gone c.args.crew.now))))

pub returns-in-Take : goal.returns-in-Take
returns-in-Take g c = rw c.in-Take.is (of_outcome _ _ _ _ _ _ _ (rw c.deref-in-Take.ensures at c.take.ensures))

pub returns-in_default : goal.returns-in_default
returns-in_default g c =
    let asks : IsSome (query_of (command_view c.args.command)) = search rules in
    of_query _ c.args.self.now c.args.at (command_view c.args.command) _ _ _ asks (c.ask.ensures (g.C.Crew.times_gone c.args.crew.now))
