-- An accepted command counts no more steps than a refused one may.
use Rattle.std.proofs.Common.{subst}
use Rattle.road_rewind.specs.Growth.{TicksAtMost}
use Rattle.road_replica.specs.Replicas.{Replica}
use Rattle.road_replica.specs.Writes.{most_steps_of_command}
use Rattle.road_replica.proofs.Writes.{few_steps_of}
use Rattle.road_sessions.specs.Journals.{entry_command}
use Rattle.road_sessions.proofs.held.Held.next.Goals as goal

pub returns-clause-few_steps : goal.returns-clause-few_steps
returns-clause-few_steps g c =
    let command = entry_command c.args.command.now in
    subst (λ (r : Replica). TicksAtMost (most_steps_of_command command r.sheet) c.args.meter.now c.perform.new.meter) c.in_ok-replica.ensures
    (few_steps_of command c.in_ok-replica.replica.sheet c.args.meter.now c.perform.new.meter c.in_ok-answer.ensures.write.steps)
