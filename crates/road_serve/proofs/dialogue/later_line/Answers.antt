-- A line that is held is short enough for its crowd to be gathered.
use Rattle.std.proofs.Common.{arith, length}
use Rattle.road_format.specs.Views.{command_view}
use Rattle.road_replica.specs.declared.crowds.TheConstants.{MOST_CROWD_WRITES}
use Rattle.road_format.proofs.FewWrites.{few_within}
use Rattle.road_serve.proofs.dialogue.later_line.Goals as goal

pub returns-in-Ok-clause-shares : goal.returns-in-Ok-clause-shares
returns-in-Ok-clause-shares c =
    few_within (length c.in-Some.bytes.now) MOST_CROWD_WRITES (omega (arith, c.in-Some.ensures.few)) (command_view c.in-Ok.command) c.in-Ok.ensures.shares
