-- The lines of an input and its last piece make up the whole input.
use Rattle.road_format.proofs.CutLines.{cut_loses_nothing}
use Rattle.road_format.proofs.laws.cut_loses_nothing.Goals as goal

pub returns : goal.returns
returns c = cut_loses_nothing
