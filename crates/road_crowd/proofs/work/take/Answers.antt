-- No named cause applies to an edit that fits the plan, so its write is refused only for a full journal or out of
-- memory.
use Rattle.std.proofs.Common.{◌∙◌, ap}
use Rattle.road_plan.specs.Plan.{Plan}
use Rattle.road_scenario.specs.Edits.{Edits}
use Rattle.road_replica.specs.Refusals.{take_fault}
use Rattle.road_crowd.proofs.CrowdRefusals.{refused_there, taken_alone}
use Rattle.road_crowd.proofs.work.take.Goals as goal

pub write_fault-requires : goal.write_fault-requires
write_fault-requires g c =
    let r = g.J.Naming.replica in
    refused_there g.J.Naming.limit r _ _ c.in-Err.fault _ _
    (λ q same. ap (λ (p : Plan). take_fault p c.in_ok-scenario.scenario) same
    ∙ ap (λ (edits : Edits). take_fault r.sheet.plan edits) c.in_ok-scenario.ensures
    ∙ taken_alone r.sheet.plan c.args.edit.now c.requires)
    c.in-Err.ensures.gone c.in-Err.ensures.write.refused
