-- The run continues from where it was, or from where it restarts.
use Rattle.std.proofs.Common.{subst, sym}
use Rattle.road_sheet.specs.ShownRuns.{IsShownBy}
use Rattle.road_sheet.proofs.shown_run.ShownRun.go_to.Goals as goal
use Rattle.road_sheet.proofs.shown_run.ShownRun.go_to.Goals.{then-not-is_nearest+in_ok-take_up, else-not-is_nearest}

pub loop-now-init : goal.loop-now-init
loop-now-init c =
    elim c.if-not-is_nearest.branch [
      | then-not-is_nearest+in_ok-take_up w ↦ record { step = sym c.next_step-now.ensures; shown = subst (IsShownBy c.args.sheet.now) (sym w.self-is) w.in_ok-take_up.ensures.shown }
      | else-not-is_nearest w ↦ record { step = sym c.next_step-now.ensures; shown = subst (IsShownBy c.args.sheet.now) (sym w.self-is) c.requires.shown }
    ]
