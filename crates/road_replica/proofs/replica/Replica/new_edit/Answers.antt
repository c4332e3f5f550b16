-- The scenario has only the edit that is made, and fits if that edit does.
use Rattle.std.proofs.Common.{◌≡◌, None, rules}
use Rattle.road_scenario.specs.Faults.{fault_of_edit}
use Rattle.road_replica.specs.Replicas.{edit_made}
use Rattle.road_replica.proofs.GrownSheets.{scenario_of_one}
use Rattle.road_replica.proofs.replica.Replica.new_edit.Goals as goal

pub returns-clause-edit : goal.returns-clause-edit
returns-clause-edit c =
    scenario_of_one c.empty.result c.in_ok-alone.alone c.stamped_edit-edit.result (edit_made c.args.self.now c.args.local.object c.args.local.step c.args.local.value) c.empty.ensures.none c.in_ok-alone.ensures.winners c.stamped_edit-edit.ensures

pub returns-clause-fits : goal.returns-clause-fits
returns-clause-fits c =
    let plan = c.args.self.now.sheet.plan in
    let none : fault_of_edit plan c.stamped_edit-edit.result ≡ None = search rules in
    c.in_ok-alone.ensures.fits plan (c.empty.ensures.fits plan) none
