-- The taken steps of an object are visited until the number set at one has changed.
use Rattle.std.proofs.Common.{◌≡◌, []}
use Rattle.std.specs.Option.{option_copied, unwrap_or}
use Rattle.road_scenario.specs.Private.RegisterWalks.{first_change_among}
use Rattle.road_scenario.proofs.touched.first_change_among.Given as goal

-- the first is the first of what is left
abbrev pub invariant-loop-step : goal.invariant-loop-step
invariant-loop-step l =
    first_change_among (unwrap_or (option_copied l.ours) []) (unwrap_or (option_copied l.joined) []) l.step-iterator
    ≡ first_change_among (unwrap_or (option_copied l.ours) []) (unwrap_or (option_copied l.joined) []) l.steps
