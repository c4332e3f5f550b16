-- If the replica refuses the write, no step is computed. If only the entry is refused, no named cause applies, and few
-- steps were computed.
use Rattle.std.proofs.Common.{◌≡◌, List, None, false, length, nat_le, rules, subst}
use Rattle.road_rewind.specs.Growth.{TicksAtMost}
use Rattle.road_replica.specs.Replicas.{Replica}
use Rattle.road_replica.specs.Writes.{most_steps_of_command}
use Rattle.road_sessions.specs.Journals.{entry_command, replay}
use Rattle.road_sessions.specs.Writes.{most_steps_of_wish, write_fault}
use Rattle.road_sessions.specs.declared.entry.Entry.{Entry}
use Rattle.road_sessions.specs.declared.entry.SheetCommand.{SheetCommand}
use Rattle.road_sessions.proofs.SessionWrites.{refused_early, refused_late}
use Rattle.road_sessions.proofs.held.Held.write.Goals as goal

pub returns-in_err-command-clause-write : goal.returns-in_err-command-clause-write
returns-in_err-command-clause-write g c =
    let journal : List Entry = c.args.self.now.journal.items in
    let room : nat_le c.args.self.now.limit (length journal) ≡ false = search rules in
    refused_early c.args.self.now.limit c.args.wish.now g.J.Naming.replica c.args.self.now.replica journal c.from_residual.result _ c.args.meter.now room c.args.self.now.replayed c.from_residual.ensures.1 c.in_err-command.ensures.refused

pub returns-in_err-put_in_place-clause-write : goal.returns-in_err-put_in_place-clause-write
returns-in_err-put_in_place-clause-write g c =
    let r : Replica = g.J.Naming.replica in
    let journal : List Entry = c.args.self.now.journal.items in
    let none : write_fault c.args.self.now.limit c.args.wish.now r journal ≡ None = search rules in
    let done = subst (λ (command : SheetCommand). TicksAtMost (most_steps_of_command (entry_command command) c.args.self.now.replica.sheet) c.args.meter.now c.next.new.meter) c.in_ok-command.ensures.command c.in_ok-replica.ensures.few_steps in
    let few : TicksAtMost (most_steps_of_wish c.args.wish.now (replay r journal)) c.args.meter.now c.next.new.meter =
    subst (λ (q : Replica). TicksAtMost (most_steps_of_wish c.args.wish.now q) c.args.meter.now c.next.new.meter) c.args.self.now.replayed done in
    refused_late c.args.self.now.limit c.args.wish.now r journal c.from_residual-in_err-put_in_place.result _ c.args.meter.now c.next.new.meter none c.from_residual-in_err-put_in_place.ensures.1 c.in_err-put_in_place.ensures.refused few
