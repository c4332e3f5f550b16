-- All sessions have come back, so the store can be closed. The journal is what they wrote, so the sheet is that of the
-- crowd.
use Rattle.std.proofs.Common.{◌≡◌, ◌∙◌, ap, arith, subst, sym}
use Rattle.std.specs.Prelude.{IfOk, string_bytes, ℕ}
use Rattle.std.specs.Arc.{arc_value}
use Rattle.lattice_core.specs.Sets.{items}
use Rattle.road_sheet.specs.Sheets.{Sheet}
use Rattle.road_sheet.specs.Shown.{row_at}
use Rattle.road_replica.specs.Crowds.{shares_of}
use Rattle.road_plan.specs.Plan.{Plan}
use Rattle.road_replica.specs.Replicas.{Replica}
use Rattle.road_crowd.specs.Private.Works.{AreAccepted}
use Rattle.road_crowd.proofs.CrowdJournals.{closed_sheet, length_of_crowd}
use Rattle.road_crowd.proofs.CrowdRefusals.{all_accepted}
use Rattle.road_crowd.proofs.CrowdSessions.{all_given}
use Rattle.road_crowd.proofs.gathering.run_prepared.Goals as goal

pub run_on_threads-requires-clause-accepted : goal.run_on_threads-requires-clause-accepted
run_on_threads-requires-clause-accepted g c κs within =
    let plan : arc_value c.args.plan.now ≡ g.J.Naming.replica.sheet.plan =
    ap (λ (r : Replica). r.sheet.plan) (sym c.requires.opening ∙ c.requires.named.1) in
    subst (λ (p : Plan). AreAccepted p c.args.task.now.to (shares_of c.args.shares.now)) plan
    (all_accepted (arc_value c.args.plan.now) (shares_of c.args.shares.now) c.args.task.now.to c.requires.accepted)

pub result_of-requires-clause-simulated : goal.result_of-requires-clause-simulated
result_of-requires-clause-simulated g c =
    let closed = c.in-Ok.ensures in
    ap (λ (s : Sheet). s.horizon)
    (closed_sheet (arc_value c.args.plan.now) _ _ c.in-Ok.closed.journal.items c.in_ok-sessions.sessions.items c.args.shares.now c.args.task.now.to
    (sym c.requires.named.1 ∙ c.requires.opening) closed.sheet closed.all.1 closed.journal c.in_ok-sessions.ensures c.requires.some)

pub result_of-requires-clause-few : goal.result_of-requires-clause-few
result_of-requires-clause-few g c =
    let count = length_of_crowd c.in-Ok.closed.journal.items c.in_ok-sessions.sessions.items (shares_of c.args.shares.now) c.args.task.now.to c.in-Ok.ensures.journal c.in_ok-sessions.ensures in
    let most = c.requires.within in omega arith

pub returns-clause-edits : goal.returns-clause-edits
returns-clause-edits g c =
    let closed = c.in-Ok.ensures in
    subst (λ (s : Sheet). IfOk c.result_of.result (λ crowd. crowd.edits.items ≡ items s.edits))
    (closed_sheet (arc_value c.args.plan.now) _ _ c.in-Ok.closed.journal.items c.in_ok-sessions.sessions.items c.args.shares.now c.args.task.now.to
    (sym c.requires.named.1 ∙ c.requires.opening) closed.sheet closed.all.1 closed.journal c.in_ok-sessions.ensures c.requires.some)
    c.result_of.ensures.edits

pub returns-clause-journal : goal.returns-clause-journal
returns-clause-journal g c =
    let count = length_of_crowd c.in-Ok.closed.journal.items c.in_ok-sessions.sessions.items (shares_of c.args.shares.now) c.args.task.now.to c.in-Ok.ensures.journal c.in_ok-sessions.ensures in
    subst (λ (n : ℕ). IfOk c.result_of.result (λ crowd. crowd.journal ≡ n)) count c.result_of.ensures.journal

pub returns-clause-row : goal.returns-clause-row
returns-clause-row g c =
    let closed = c.in-Ok.ensures in
    subst (λ (s : Sheet). IfOk c.result_of.result (λ crowd. string_bytes crowd.row ≡ row_at s.plan s.edits c.args.task.now.to))
    (closed_sheet (arc_value c.args.plan.now) _ _ c.in-Ok.closed.journal.items c.in_ok-sessions.sessions.items c.args.shares.now c.args.task.now.to
    (sym c.requires.named.1 ∙ c.requires.opening) closed.sheet closed.all.1 closed.journal c.in_ok-sessions.ensures c.requires.some)
    c.result_of.ensures.row

pub unreachable-requires : goal.unreachable-requires
unreachable-requires g c =
    c.in-Err.ensures.all.1 (all_given g.J.Ledger.parts c.in_ok-sessions.sessions.items c.args.shares.now c.args.task.now.to
    (sym c.requires.named.3 ∙ c.args.prepared.parts ∙ c.requires.one_each) c.in_ok-sessions.ensures)
