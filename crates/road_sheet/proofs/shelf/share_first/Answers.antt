-- At the end the first `count` values are shared.
use Rattle.std.proofs.Common.{arith}
use Rattle.std.proofs.lemmas.Grind.{common_steps}
use Rattle.std.proofs.lemmas.List.{take-map}
use Rattle.road_sheet.proofs.shelf.share_first.Goals as goal

pub returns : goal.returns
returns g c = rw take-map (grind (arith, common_steps))
