-- Lists of flags are compared flag by flag.
use Rattle.std.specs.Cmp.{booleans_Decides}
use Rattle.std.proofs.lemmas.Slice.Eq.{slice_eq-Decides}
use Rattle.road_ends.proofs.input.sameness.are_same_flags.Goals as goal

pub returns : goal.returns
returns c = slice_eq-Decides booleans_Decides _ _ _ c.eq.ensures
