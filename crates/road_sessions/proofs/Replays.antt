-- Journals with one more entry: the plan stays the same, and they stay legal.
use Rattle.std.proofs.Common.{◌≡◌, ◌∙◌, List, [], ◌∷◌, ◌++◌, refl, sym, subst}
use Rattle.road_plan.specs.Plan.{Plan}
use Rattle.road_sheet.specs.Commands as commands
use Rattle.road_sheet.specs.Commands.{IsAllowed, IsHistoryFrom, sheet_after}
use Rattle.road_sheet.specs.Sheets.{Sheet}
use Rattle.road_replica.specs.Replicas.{Replica, replica_after}
use Rattle.road_sessions.specs.declared.entry.Entry.{Entry}
use Rattle.road_sessions.specs.Journals.{IsLegal, entry_command, replay, history_of_journal}

-- no command changes the plan
plan_after : (command : commands.SheetCommand) (s : Sheet) → (sheet_after command s).plan ≡ s.plan
plan_after (commands.Take edits) s = refl
plan_after (commands.Advance to) s = refl

pub plan_kept : (r : Replica) (journal : List Entry) → (replay r journal).sheet.plan ≡ r.sheet.plan
plan_kept r [] = refl
plan_kept r (e ∷ es) = plan_kept (replica_after (entry_command e.command) r) es ∙ plan_after (entry_command e.command) r.sheet

more : (s : Sheet) (journal : List Entry) (e : Entry) → IsHistoryFrom s (history_of_journal s journal) → IsAllowed s.plan (entry_command e.command) → IsHistoryFrom s (history_of_journal s (journal ++ e ∷ []))
more s [] e legal allowed = (allowed, refl, tt)
more s (f ∷ fs) e legal allowed =
    let after = sheet_after (entry_command f.command) s in
    let still = subst (λ (plan : Plan). IsAllowed plan (entry_command e.command)) (sym (plan_after (entry_command f.command) s)) allowed in
    (legal.0, legal.1, more after fs e legal.2 still)

pub legal_more : (r : Replica) (journal : List Entry) (e : Entry) → IsLegal r journal → IsAllowed r.sheet.plan (entry_command e.command) → IsLegal r (journal ++ e ∷ [])
legal_more r journal e legal allowed = more r.sheet journal e legal allowed
