-- The row of one more step comes after the others.
use Rattle.std.proofs.Common.{◌≡◌, ◌≤◌, ◌+◌, ◌∙◌, List, map, ap, arith, String, Global, string_bytes}
use Rattle.road_sheet.specs.Sheets.{sheet_row}
use Rattle.road_sheet.proofs.RunRows.{one_row_more}
use Rattle.road_sheet.proofs.shown_run.ShownRun.rows_to.Goals as goal

pub loop-step-preserved : goal.loop-step-preserved
loop-step-preserved c =
    let s = c.args.sheet.now in
    let first : c.next_step-step.result ≡ c.args.self.now.run.step = c.next_step-step.ensures ∙ c.in_ok-first.ensures.step in
    let before : c.args.self.now.run.step ≤ c.loop-step.step = omega (arith, first, c.loop-step.auto.step) in
    let step = c.in_ok-step_on.ensures.step ∙ ap (λ n. n + 1) c.loop-step.invariant.step in
    record {
      step = c.in_ok-row.ensures.step ∙ step;
      rows = ap (λ (rows : List (String Global)). map string_bytes rows) c.in_ok-push-2.ensures.items
          ∙ one_row_more s.plan s.edits c.args.self.now.run.step c.loop-step.step c.loop-step.rows.items c.in_ok-row.row before c.loop-step.invariant.rows
          (c.in_ok-row.ensures.row ∙ ap (sheet_row s) step);
      shown = c.in_ok-row.ensures.shown;
    }
