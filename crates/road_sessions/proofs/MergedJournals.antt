-- A replayed journal leaves the winners of all its edits, at the latest step that it advances to.
use Rattle.std.proofs.Common.{◌≡◌, ◌∙◌, max, List, [], ◌∷◌, sym, ap, arith, subst}
use Rattle.std.specs.Prelude.{◌||◌}
use Rattle.lattice_core.specs.Sets.{contains, empty, union}
use Rattle.lattice_core.proofs.SetElements.{contains-empty, contains-union, same_set}
use Rattle.lattice_core.proofs.GreatestElements.{union-assoc, union-comm}
use Rattle.road_scenario.specs.Edits.{Edits, edit_cmp}
use Rattle.road_scenario.specs.Instances.EditOrder.{edit_total, edit_exact, winners_laws}
use Rattle.road_scenario.specs.Winners.{AreWinners, join, winners}
use Rattle.road_scenario.proofs.NoEdits.{winners-empty}
use Rattle.road_sheet.specs.Commands as commands
use Rattle.road_sheet.specs.Sheets.{Sheet}
use Rattle.road_replica.specs.Replicas.{Replica, replica_after}
use Rattle.road_sessions.specs.Journals.{entry_command, replay, replica_of_plan}
use Rattle.road_sessions.specs.Merges.{command_edits, command_step, edits_taken, latest_step, merged_sheet}
use Rattle.road_sessions.specs.declared.entry.SheetCommand.{SheetCommand}
use Rattle.road_sessions.specs.declared.entry.SheetCommand.TheVariants.{Take, Advance}
use Rattle.road_sessions.specs.declared.entry.Entry.{Entry}
use Rattle.road_sessions.proofs.Replays.{plan_kept}

-- ---- unions with the empty set, and with a join

pub union-empty_first : (s : Edits) → union empty s ≡ s
union-empty_first s = same_set edit_total edit_exact _ _ (λ e. contains-union edit_total empty s e ∙ ap (λ b. b || contains s e) (contains-empty edit_cmp e))

union-empty_last : (s : Edits) → union s empty ≡ s
union-empty_last s = union-comm edit_total edit_exact s empty ∙ union-empty_first s

-- the winners of a join and more edits are the winners of all these edits
winners_after_join : (s t u : Edits) → winners (union (join s t) u) ≡ winners (union s (union t u))
winners_after_join s t u =
    winners_laws.of_union (join s t) u ∙ ap (λ (x : Edits). join x (winners u)) (winners_laws.of_tops (union s t))
    ∙ sym (winners_laws.of_union (union s t) u) ∙ ap winners (union-assoc edit_total edit_exact s t u)

-- ---- the resulting edits

abbrev MergesEdits : List Entry → Type 0
MergesEdits es = (r : Replica) → AreWinners r.sheet.edits → (replay r es).sheet.edits ≡ winners (union r.sheet.edits (edits_taken es))

merges_one_more : (command : SheetCommand) (es : List Entry) → MergesEdits es → (r : Replica) → AreWinners r.sheet.edits
    → (replay (replica_after (entry_command command) r) es).sheet.edits ≡ winners (union r.sheet.edits (union (command_edits command) (edits_taken es)))
merges_one_more (Take edits) es later r wins =
    later (replica_after (commands.Take edits) r) (winners_laws.of_tops (union r.sheet.edits edits)) ∙ winners_after_join r.sheet.edits edits (edits_taken es)
merges_one_more (Advance to) es later r wins =
    later (replica_after (commands.Advance to) r) wins ∙ sym (ap (λ (x : Edits). winners (union r.sheet.edits x)) (union-empty_first (edits_taken es)))

merges_edits : (es : List Entry) → MergesEdits es
merges_edits [] r wins = sym (ap winners (union-empty_last r.sheet.edits) ∙ wins)
merges_edits (e ∷ es) r wins = merges_one_more e.command es (merges_edits es) r wins

-- ---- the resulting horizon

abbrev ReachesLatest : List Entry → Type 0
ReachesLatest es = (r : Replica) → (replay r es).sheet.horizon ≡ max r.sheet.horizon (latest_step es)

reaches_one_more : (command : SheetCommand) (es : List Entry) → ReachesLatest es → (r : Replica)
    → (replay (replica_after (entry_command command) r) es).sheet.horizon ≡ max r.sheet.horizon (max (command_step command) (latest_step es))
reaches_one_more (Take edits) es later r = let reached = later (replica_after (commands.Take edits) r) in omega arith
reaches_one_more (Advance to) es later r = let reached = later (replica_after (commands.Advance to) r) in omega arith

reaches_latest : (es : List Entry) → ReachesLatest es
reaches_latest [] r = omega arith
reaches_latest (e ∷ es) r = reaches_one_more e.command es (reaches_latest es) r

-- ---- the resulting sheet

same_sheet : (s t : Sheet) → s.plan ≡ t.plan → s.edits ≡ t.edits → s.horizon ≡ t.horizon → s ≡ t
same_sheet s t plan edits horizon = λ i. let u : Sheet = record { plan = plan i; edits = edits i; horizon = horizon i } in u

pub sheet_of_replay : (r : Replica) (journal : List Entry) → AreWinners r.sheet.edits → (replay r journal).sheet ≡ merged_sheet r journal
sheet_of_replay r journal wins =
    same_sheet (replay r journal).sheet (merged_sheet r journal) (plan_kept r journal) (merges_edits journal r wins) (reaches_latest journal r)

-- the resulting sheet of a replica that was just opened, and so has no edits
pub sheet_of_opened : (r : Replica) (journal : List Entry) → r ≡ replica_of_plan r.sheet.plan r.number → (replay r journal).sheet ≡ merged_sheet r journal
sheet_of_opened r journal opened = sheet_of_replay r journal (subst (λ (q : Replica). AreWinners q.sheet.edits) (sym opened) winners-empty)
