-- The step after the last one.
use Rattle.std.proofs.Common.{rules}
use Rattle.road_sheet.proofs.draft.Draft.horizon.Goals as goal

pub returns : goal.returns
returns c = search rules
