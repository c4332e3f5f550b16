-- An edit or a withdrawal that a replica makes is the world's, or is refused as the world's definition says.
use Rattle.std.specs.Arc.{arc_value}
use Rattle.road_replica.specs.Refusals.{edit_fault}
use Rattle.road_replica.specs.Replicas.{edit_made, single_edit}
use Rattle.road_sheet.specs.Commands.{Take}
use Rattle.road_world.proofs.AppliedEvents.{accepted_kept, edit_allowed, local_accepted, local_refused}
use Rattle.road_world.proofs.KeptWorlds.{below_kept}
use Rattle.road_world.proofs.world.World.make_edit.Goals as goal

pub returns-in_err-stamp-clause-applied : goal.returns-in_err-stamp-clause-applied
returns-in_err-stamp-clause-applied g c =
    let plan = arc_value c.self.inside.plan in
    let xs = c.self.inside.replicas.items in
    let ms = c.self.inside.messages.items in
    let k = c.args.self.now in
    let below = below_kept plan xs ms c.self.invariant k c.self.view_is c.args.at c.requires in
    local_refused plan xs ms c.self.invariant k c.self.view_is c.args.at c.args.local.object c.args.local.step c.index_mut-replica.result.now c.make_edit.new.self _ _ c.index_mut-replica.ensures.value below c.requires
    c.args.local.value c.from_residual.result c.in_err-stamp.field-0.0 c.in_err-stamp.ensures.write c.from_residual.ensures.1

pub invariant_of-self-2 : goal.invariant_of-self-2
invariant_of-self-2 g c =
    let plan = arc_value c.self.inside.plan in
    let xs = c.self.inside.replicas.items in
    let ms = c.self.inside.messages.items in
    let k = c.args.self.now in
    let x = c.index_mut-replica.result.now in
    let below = below_kept plan xs ms c.self.invariant k c.self.view_is c.args.at c.requires in
    accepted_kept plan xs ms c.self.invariant k c.self.view_is c.args.at (Take (single_edit (edit_made x c.args.local.object c.args.local.step c.args.local.value))) (edit_fault x c.args.local.object c.args.local.step c.args.local.value) x c.make_edit.new.self _ _
    c.index_mut-replica.ensures.value below (edit_allowed x c.args.local.object c.args.local.step c.args.local.value) c.in_ok-stamp.ensures.write

pub returns-clause-applied : goal.returns-clause-applied
returns-clause-applied g c =
    let plan = arc_value c.self.inside.plan in
    let xs = c.self.inside.replicas.items in
    let ms = c.self.inside.messages.items in
    let k = c.args.self.now in
    let below = below_kept plan xs ms c.self.invariant k c.self.view_is c.args.at c.requires in
    local_accepted plan xs ms c.self.invariant k c.self.view_is c.args.at c.args.local.object c.args.local.step c.index_mut-replica.result.now c.make_edit.new.self _ _ c.index_mut-replica.ensures.value below c.requires
    c.args.local.value c.in_ok-stamp.stamp c.in_ok-stamp.ensures.stamp c.in_ok-stamp.ensures.write
