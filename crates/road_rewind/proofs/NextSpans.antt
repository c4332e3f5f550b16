-- A sheet's next span can be run from its road at the horizon.
use Rattle.std.proofs.Common.{◌≤◌, ◌+◌, subst, sym, arith}
use Rattle.road_plan.specs.Plan.{IsWithinLimits, Plan}
use Rattle.road_plan.specs.declared.limits.TheConstants.{GREATEST_HORIZON}
use Rattle.road_ends.specs.Laws.{StayOnRoad}
use Rattle.road_ends.specs.Span.{Span}
use Rattle.road_scenario.specs.Settings.{settings_of}
use Rattle.road_workers.specs.Crews.{CanBeRun}
use Rattle.road_sheet.specs.Sheets.{Sheet, state_of}
use Rattle.road_sheet.specs.Spans.{IsNextSpan}
use Rattle.road_sheet.proofs.SmallCars.{runnable}

pub next_can_be_run : (s : Sheet) (span : Span) → IsNextSpan s span → IsWithinLimits span.plan → span.step + span.steps ≤ GREATEST_HORIZON → StayOnRoad span.plan → CanBeRun span (state_of s s.horizon)
next_can_be_run s span is limits within stay =
    let early : s.horizon ≤ GREATEST_HORIZON = let step = is.step in omega arith in
    subst (λ (p : Plan). CanBeRun (record span { plan = p }) (state_of s s.horizon)) (sym is.plan)
    (is.some, runnable s.plan (settings_of s.plan s.edits) s.horizon (subst IsWithinLimits is.plan limits) early (subst StayOnRoad is.plan stay))
