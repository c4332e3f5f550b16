-- The replica was opened without edits, so replaying the journal leaves exactly its merged edits.
use Rattle.std.proofs.Common.{◌∙◌, ap}
use Rattle.road_replica.specs.Replicas.{Replica}
use Rattle.road_sessions.proofs.MergedJournals.{sheet_of_opened}
use Rattle.road_sessions.proofs.held.Held.into_sheet_and_journal.Goals as goal

pub returns-clause-merged : goal.returns-clause-merged
returns-clause-merged g c =
    c.into_sheet.ensures ∙ ap (λ (q : Replica). q.sheet) c.args.self.replayed
    ∙ sheet_of_opened g.J.Naming.replica c.args.self.journal.items c.args.self.opening
