-- The registers up to a step are walked back until one sets a number.
use Rattle.std.proofs.Common.{◌≡◌, length}
use Rattle.road_scenario.specs.Private.RegisterWalks.{last_number}
use Rattle.road_scenario.proofs.LastNumbers.{last_number_of}
use Rattle.road_scenario.proofs.registers.last_put.Given as goal

-- the registers that are left have the number that is searched for
abbrev pub invariant-loop-won : goal.invariant-loop-won
invariant-loop-won l = last_number_of l.earlier ≡ last_number l.step l.registers

abbrev pub decreases-loop-won : goal.decreases-loop-won
decreases-loop-won l = length l.earlier
