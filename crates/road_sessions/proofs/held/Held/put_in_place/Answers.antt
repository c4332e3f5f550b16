-- The stored replica has the plan of the replica that was opened.
use Rattle.std.proofs.Common.{◌≡◌, ◌∙◌, ap, subst}
use Rattle.road_plan.specs.Plan.{Plan}
use Rattle.road_replica.specs.Replicas.{Replica}
use Rattle.road_sheet.specs.Commands.{IsAllowed}
use Rattle.road_sessions.specs.Journals.{entry_command}
use Rattle.road_sessions.proofs.Replays.{plan_kept}
use Rattle.road_sessions.proofs.held.Held.put_in_place.Goals as goal

pub append_entry-requires-clause-allowed : goal.append_entry-requires-clause-allowed
append_entry-requires-clause-allowed g c =
    let r = g.J.Naming.replica in
    let plan : c.args.self.now.replica.sheet.plan ≡ r.sheet.plan = ap (λ (q : Replica). q.sheet.plan) c.args.self.now.replayed ∙ plan_kept r c.args.self.now.journal.items in
    subst (λ (p : Plan). IsAllowed p (entry_command c.args.entry.command)) plan c.requires.next.0
