-- Edits to which no cause applies fit the plan, and a refusal loses no worker.
use Rattle.std.proofs.Common.{◌≡◌, ◌∙◌, None, Option, ap, sym, subst, rules}
use Rattle.std.specs.Prelude.{IfOk, IfSome}
use Rattle.lattice_core.specs.Sets.{from_list}
use Rattle.road_scenario.specs.Edits.{Edits, edit_cmp}
use Rattle.road_scenario.specs.Touched.{first_touched_step}
use Rattle.road_scenario.specs.Winners.{AreWinners, join}
use Rattle.road_replica.specs.Refusals.{gone_after_fault, import_fault}
use Rattle.road_replica.specs.Replicas.{Replica}
use Rattle.road_replica.specs.declared.faults.ReplicaFault.{ReplicaFault}
use Rattle.road_replica.proofs.GrownSheets.{join-winners}
use Rattle.road_replica.proofs.ImportedEdits.{no_fault_imported, refused_import_loses_none}
use Rattle.road_replica.proofs.Writes.{retaken}
use Rattle.road_replica.proofs.replica.Replica.import.Goals as goal

pub returns-in-Some-clause-gone : goal.returns-in-Some-clause-gone
returns-in-Some-clause-gone g c =
    let n = g.C.Crew.times_gone c.args.crew.now in
    subst (λ (cause : Option ReplicaFault). IfSome cause (λ fault. n ≡ gone_after_fault fault n)) (sym c.in-Some.ensures) (refused_import_loses_none c.deref-2.result.now c.args.edits.now n)

pub join-requires : goal.join-requires
join-requires g c =
    let plan = c.args.self.now.sheet.plan in
    let none : import_fault plan c.args.edits.now ≡ None = search rules in
    c.in_ok-scenario.ensures.fits plan (no_fault_imported plan c.args.edits.now none)

pub returns-clause-touched : goal.returns-clause-touched
returns-clause-touched g c =
    let s = c.args.self.now.sheet in
    let joined = ap (λ (edits : Edits). join s.edits edits) c.in_ok-scenario.ensures.winners ∙ join-winners s.edits (from_list {R = edit_cmp} c.args.edits.now) (subst (λ (x : Replica). AreWinners x.sheet.edits) c.self.view_is c.self.invariant.1.winners) in
    subst (λ (edits : Edits). IfOk c.join.result (λ step. step ≡ first_touched_step s.edits edits)) joined c.join.ensures.touched

pub returns-clause-write : goal.returns-clause-write
returns-clause-write g c =
    let r = c.args.self.now in
    let s = r.sheet in
    let none : import_fault s.plan c.args.edits.now ≡ None = search rules in
    let joined = ap (λ (edits : Edits). join s.edits edits) c.in_ok-scenario.ensures.winners ∙ join-winners s.edits (from_list {R = edit_cmp} c.args.edits.now) (subst (λ (x : Replica). AreWinners x.sheet.edits) c.self.view_is c.self.invariant.1.winners) in
    retaken r _ c.in_ok-scenario.scenario (from_list c.args.edits.now) _ c.join.result _ _ joined none c.join.ensures.write
