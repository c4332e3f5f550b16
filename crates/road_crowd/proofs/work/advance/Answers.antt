-- No named cause applies to an advance within the limit, so it is refused only for a full journal or out of memory.
use Rattle.road_crowd.proofs.CrowdRefusals.{refused_there}
use Rattle.road_crowd.proofs.work.advance.Goals as goal

pub write_fault-requires : goal.write_fault-requires
write_fault-requires g c =
    refused_there g.J.Naming.limit g.J.Naming.replica _ _ c.in-Err.fault _ _ (λ q same. c.requires) c.in-Err.ensures.gone c.in-Err.ensures.write.refused
