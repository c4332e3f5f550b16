-- No named cause applies to an edit of an accepted share.
use Rattle.road_crowd.proofs.CrowdRefusals.{edit_of_share}
use Rattle.road_crowd.proofs.work.work.Goals as goal

pub take-requires : goal.take-requires
take-requires g c = edit_of_share g.J.Naming.replica.sheet.plan c.args.share.now c.loop-edit.edit-index _ c.requires.accepted.0 c.loop-edit-test.true
