-- Lines that have ended stay the same when more bytes come.
use Rattle.road_format.proofs.CutLines.{lines_go_on}
use Rattle.road_format.proofs.laws.lines_go_on.Goals as goal

pub returns : goal.returns
returns c = lines_go_on
