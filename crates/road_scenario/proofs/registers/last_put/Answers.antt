-- The last register that sets a number sets the last number.
use Rattle.std.proofs.Common.{ap, sym, ◌∙◌}
use Rattle.road_scenario.specs.Private.RegisterWalks.{last_number}
use Rattle.road_scenario.proofs.LastNumbers.{last_found, last_further, last_number_of}
use Rattle.road_scenario.proofs.StepRanges.{last_number-up_to}
use Rattle.road_scenario.proofs.registers.last_put.Goals as goal

pub loop-won-init : goal.loop-won-init
loop-won-init c = ap last_number_of c.up_to-earlier.ensures ∙ last_number-up_to c.args.step c.args.registers.now

pub loop-won-preserved : goal.loop-won-preserved
loop-won-preserved c =
    last_further c.loop-won.earlier c.next_back.new.self (c.in-Some.field-0-0.now, c.in-Some.won.now) c.winning_number.result (last_number c.args.step c.args.registers.now)
    c.in-Some.ensures.steps c.winning_number.ensures (sym c.in-None.is) c.loop-won.invariant

pub returns-in-Some-winning_number : goal.returns-in-Some-winning_number
returns-in-Some-winning_number c =
    last_found c.loop-won.earlier c.next_back.new.self (c.in-Some.field-0-0.now, c.in-Some.won.now) c.winning_number.result (last_number c.args.step c.args.registers.now) c.in-Some-winning_number.number
    c.in-Some.ensures.steps c.winning_number.ensures (sym c.in-Some-winning_number.is) c.loop-won.invariant
