-- A new dialogue has answered the empty input.
use Rattle.std.proofs.Common.{refl}
use Rattle.road_serve.proofs.DialogueSteps.{nothing_came}
use Rattle.road_serve.proofs.dialogue.Dialogue.new.Goals as goal

pub returns-clause-none_came : goal.returns-clause-none_came
returns-clause-none_came g c first = nothing_came c.args.lines first _ refl refl c.new.ensures refl c.new-2.ensures.items
