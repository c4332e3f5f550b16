-- An extension without edits simulates only the steps after the horizon.
use Rattle.std.proofs.Common.{◌≡◌, None, rules, subst}
use Rattle.road_sheet.specs.Sheets.{IsSheet}
use Rattle.road_replica.specs.Refusals.{advance_fault}
use Rattle.road_replica.specs.Replicas.{Replica}
use Rattle.road_replica.proofs.Writes.{advanced_accepted, advanced_refused, handed_on}
use Rattle.road_replica.proofs.replica.Replica.advance.Goals as goal

pub extend-requires : goal.extend-requires
extend-requires g c = (c.empty.ensures.fits c.args.self.now.sheet.plan, search rules)

pub returns-in_err-extend-clause-write : goal.returns-in_err-extend-clause-write
returns-in_err-extend-clause-write g c =
    let sheet = subst (λ (r : Replica). IsSheet r.sheet) c.self.view_is c.self.invariant.1 in
    let none : advance_fault c.args.to ≡ None = search rules in
    handed_on _ _ c.from_residual.result _ c.args.self.now _ _ _ c.from_residual.ensures.1
    (advanced_refused c.args.self.now _ c.empty.result c.args.to _ _ _ _ c.empty.ensures.none sheet none c.in_err-extend.ensures.refused c.in_err-extend.ensures.unchanged c.extend-2.ensures.few_steps)

pub returns-clause-write : goal.returns-clause-write
returns-clause-write g c =
    let sheet = subst (λ (r : Replica). IsSheet r.sheet) c.self.view_is c.self.invariant.1 in
    let none : advance_fault c.args.to ≡ None = search rules in
    advanced_accepted c.args.self.now _ c.empty.result c.args.to _ _ _ c.empty.ensures.none sheet none c.in_ok-extend.ensures.sheet c.in_ok-extend.ensures.steps
