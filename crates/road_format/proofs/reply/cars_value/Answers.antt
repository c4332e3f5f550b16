-- A list of cars is written as the list of the cars' content.
use Rattle.std.proofs.Common.{rules}
use Rattle.std.proofs.lemmas.Simd.{map-map}
use Rattle.road_format.proofs.reply.cars_value.Goals as goal

pub returns : goal.returns
returns c = simp map-map (search rules)
