-- The message is made beyond the heads with the number of their name.
use Rattle.std.proofs.Common.{sym}
use Rattle.road_commands.proofs.laboratory.Laboratory.beyond.Goals as goal

pub returns-in-Some : goal.returns-in-Some
returns-in-Some g c gone = rw (sym c.in-Some.ensures.number) (c.make.ensures gone)
