-- Lists of pairs are compared pair by pair.
use Rattle.std.proofs.lemmas.Slice.Eq.{slice_eq-Decides}
use Rattle.road_ends.proofs.SameInputs.{pair_test}
use Rattle.road_ends.proofs.input.sameness.are_same_pairs.Goals as goal

pub returns : goal.returns
returns c = slice_eq-Decides pair_test _ _ _ c.eq.ensures
