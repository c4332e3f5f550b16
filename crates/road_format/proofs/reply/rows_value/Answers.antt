-- A list of rows is written as the list of their texts.
use Rattle.std.proofs.Common.{rules}
use Rattle.std.proofs.lemmas.Simd.{map-map}
use Rattle.road_format.proofs.reply.rows_value.Goals as goal

pub returns : goal.returns
returns c = simp map-map (search rules)
