-- If a crowd is not refused, no cause applies to it.
use Rattle.std.proofs.Common.{◌∙◌, sym}
use Rattle.road_replica.specs.Crowds.{shares_of}
use Rattle.road_commands.proofs.CrowdRefusals.{fault_unanswered}
use Rattle.road_commands.proofs.crowds.crowd_refusal.Goals as goal

pub returns-clause-accepted : goal.returns-clause-accepted
returns-clause-accepted c =
    fault_unanswered c.args.plan.now (shares_of c.args.shares.now) c.args.to c.in_ok-fault.fault c.ok.result (sym c.in_ok-fault.ensures) (c.ok.ensures.value ∙ c.replica_refusal.ensures.refusal)
