-- A sheet that takes edits and is simulated further, and how many steps that costs.
use Rattle.std.specs.Prelude.{◌≡◌, ◌≤◌, ◌+◌, ◌-◌, ◌^◌, ℕ, zero, suc, min, nat_lt, if◌then◌else◌, MatchResult}
use Rattle.std.specs.declared.option.Option.{Option}
use Rattle.std.specs.declared.option.Option.TheVariants.{None, Some}
use Rattle.std.specs.declared.result.Result.{Result}
use Rattle.road_scenario.specs.Edits.{Edits}
use Rattle.road_scenario.specs.Touched.{first_touched_step}
use Rattle.road_scenario.specs.Winners.{join}
use Rattle.road_sheet.specs.Commands.{Take, Advance, sheet_after}
use Rattle.road_sheet.specs.Sheets.{Sheet}
use Rattle.road_workers.specs.declared.faults.CrewFault.{CrewFault}
use Rattle.road_workers.specs.declared.faults.CrewFault.TheVariants.{WorkersGone, OutOfMemory}

-- the sheet with edits joined in, simulated at least up to a step
abbrev pub grown_sheet : Sheet → Edits → ℕ → Sheet
grown_sheet s edits to = sheet_after (Advance to) (sheet_after (Take edits) s)

-- the first step at which the numbers set change if edits are joined into a sheet's
abbrev pub touched_step : Sheet → Edits → Option ℕ
touched_step s edits = first_touched_step s.edits (join s.edits edits)

-- the step up to which a run is kept: the horizon or the touched step, whichever is earlier
abbrev pub kept_step : ℕ → Option ℕ → ℕ
kept_step horizon None = horizon
kept_step horizon (Some touched) = min horizon touched

-- the most steps that may be computed up to a step: those after the horizon if no simulated step is touched; else those
-- from the touched step on, and 63 more
abbrev pub most_steps : ℕ → ℕ → Option ℕ → ℕ
most_steps horizon to None = to - horizon
most_steps horizon to (Some touched) = if nat_lt touched horizon then to - touched + 63 else to - horizon

-- the count of a meter after some ticks: each adds one, but the count stays at the maximum of u64
abbrev pub meter_after : ℕ → ℕ → ℕ
meter_after meter zero = meter
meter_after meter (suc ticks) = min (meter_after meter ticks + 1) (2 ^ 64 - 1)

-- a meter has ticked at most `most` times
pub record TicksAtMost (most meter later : ℕ) : Type 0 where
  pub ticks : ℕ
  pub few : ticks ≤ most
  pub counted : later ≡ meter_after meter ticks

-- how often a crew has returned `WorkersGone` after a call failed with this fault
abbrev pub gone_after_fault : CrewFault → ℕ → ℕ
gone_after_fault WorkersGone n = min (n + 1) (2 ^ 64 - 1)
gone_after_fault OutOfMemory n = n

-- a crew's count of `WorkersGone` is right: it rises by one if a call failed with it, else it stays
abbrev pub CountsGone : {A : Type 0} → Result A CrewFault → ℕ → ℕ → Type 0
CountsGone result gone later = MatchResult result (λ _. later ≡ gone) (λ fault. later ≡ gone_after_fault fault gone)
