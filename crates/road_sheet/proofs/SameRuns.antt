-- Two sets of edits give the same run up to the first touched step.
use Rattle.std.proofs.Common.{◌≡◌, ◌≤◌, ◌<◌, ℕ, Option, Some, None, arith}
use Rattle.road_plan.specs.Plan.{Plan}
use Rattle.road_ends.specs.Laws.{DependOnEarlierSettings}
use Rattle.road_scenario.specs.Edits.{Edits}
use Rattle.road_scenario.specs.Settings.{settings_of}
use Rattle.road_scenario.specs.Touched.{first_touched_step, IsBefore}
use Rattle.road_sheet.specs.Drafts.{IsUpTo}
use Rattle.road_sheet.specs.Private.Intervals.{GiveSameRun}
use Rattle.road_sheet.specs.Shown.{run_at}
use Rattle.road_sheet.proofs.RunTotals.{total_same}

before : (o : Option ℕ) (keep u : ℕ) → IsUpTo o keep → u < keep → IsBefore u o
before None keep u up l = tt
before (Some step) keep u up l = omega (arith, up, l)

-- if settings are the same before the first touched step, runs are the same up to it
pub same_run : (p : Plan) (s t : Edits) (keep : ℕ) → DependOnEarlierSettings p → ((u : ℕ) → IsBefore u (first_touched_step s t) → settings_of p s u ≡ settings_of p t u) → IsUpTo (first_touched_step s t) keep → GiveSameRun p s t keep
same_run p s t keep local same up =
    let agree : (u : ℕ) → u < keep → settings_of p s u ≡ settings_of p t u = λ u l. same u (before (first_touched_step s t) keep u up l) in
    let states : (u : ℕ) → u ≤ keep → run_at p s u ≡ run_at p t u = λ u l. local (settings_of p s) (settings_of p t) keep agree u l in
    record { state = states; total = λ d a b l. total_same p (settings_of p s) (settings_of p t) d keep a b agree states l }
