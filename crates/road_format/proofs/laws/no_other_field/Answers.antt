-- An object with as many fields as names, and each of them, has no other.
use Rattle.road_format.proofs.NoOtherField.{no_other_field}
use Rattle.road_format.proofs.laws.no_other_field.Goals as goal

pub returns : goal.returns
returns c = no_other_field
