-- The speeds of the piece.
use Rattle.std.proofs.Common.{rules}
use Rattle.road_workers.proofs.scoped.piece_speeds.Goals as goal

pub returns : goal.returns
returns c = search rules
