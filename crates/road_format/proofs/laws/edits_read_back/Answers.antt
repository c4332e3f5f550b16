-- Edits are read back as they are written.
use Rattle.road_format.proofs.WrittenEdits.{edits_read_back}
use Rattle.road_format.proofs.laws.edits_read_back.Goals as goal

pub returns : goal.returns
returns c = edits_read_back
