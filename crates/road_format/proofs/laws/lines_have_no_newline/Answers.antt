-- No line contains a newline.
use Rattle.road_format.proofs.CutLines.{lines_have_no_newline}
use Rattle.road_format.proofs.laws.lines_have_no_newline.Goals as goal

pub returns : goal.returns
returns c = lines_have_no_newline
