-- The steps of an object are visited until the numbers set differ.
use Rattle.std.proofs.Common.{◌≡◌, []}
use Rattle.std.specs.Option.{option_copied, unwrap_or}
use Rattle.road_scenario.specs.Private.RegisterWalks.{first_change_at}
use Rattle.road_scenario.proofs.touched.first_change_at.Given as goal

-- the first is the first of what is left
abbrev pub invariant-loop-step : goal.invariant-loop-step
invariant-loop-step l = first_change_at l.step-iterator (unwrap_or (option_copied l.others) []) ≡ first_change_at l.steps (unwrap_or (option_copied l.others) [])
