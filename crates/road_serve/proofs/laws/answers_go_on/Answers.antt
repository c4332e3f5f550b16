-- The answers so far stay the same as more bytes come.
use Rattle.road_serve.proofs.AnswersGrow as grow
use Rattle.road_serve.proofs.laws.answers_go_on.Goals as goal

pub returns : goal.returns
returns c = grow.answers_go_on
