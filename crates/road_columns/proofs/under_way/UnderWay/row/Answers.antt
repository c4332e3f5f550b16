-- The speeds of the run's cars are digits, so the road has a row.
use Rattle.road_columns.specs.Private.Cars.{road_of}
use Rattle.road_columns.proofs.StretchSteps.{digits}
use Rattle.road_columns.proofs.under_way.UnderWay.row.Goals as goal

pub text_of-requires-clause-digits : goal.text_of-requires-clause-digits
text_of-requires-clause-digits c =
    digits c.self.inside.stretch.first c.self.inside.stretch.end (road_of c.self.inside.cars) c.self.invariant.running.stand
