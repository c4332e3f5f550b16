-- Advancing a replica increases its horizon.
use Rattle.std.proofs.Common.{◌∙◌, max, ap, refl}
use Rattle.std.specs.Arc.{arc_value}
use Rattle.road_replica.specs.Refusals.{advance_fault}
use Rattle.road_replica.specs.declared.reply.Reply.TheVariants as replies
use Rattle.road_sheet.specs.Commands.{Advance}
use Rattle.road_world.proofs.AppliedEvents.{accepted_applied, accepted_kept, advance_allowed, refused_applied}
use Rattle.road_world.proofs.KeptWorlds.{below_kept, read}
use Rattle.road_world.specs.Events.{WorldReplica}
use Rattle.road_world.specs.declared.event.Event.TheVariants as events
use Rattle.road_world.proofs.world.World.advance.Goals as goal
use Rattle.std.proofs.Common.{sym}

pub returns-in_err-horizon-clause-applied : goal.returns-in_err-horizon-clause-applied
returns-in_err-horizon-clause-applied g c =
    let plan = arc_value c.self.inside.plan in
    let xs = c.self.inside.replicas.items in
    let ms = c.self.inside.messages.items in
    let k = c.args.self.now in
    let x = c.index_mut-replica.result.now in
    let below = below_kept plan xs ms c.self.invariant k c.self.view_is c.args.at c.requires in
    refused_applied plan xs ms c.self.invariant k c.self.view_is (events.Advance c.args.at c.args.to) (Advance c.args.to) (advance_fault c.args.to) x c.advance.new.self _ _ c.index_mut-replica.ensures.value below c.requires
    c.from_residual.result c.in_err-horizon.field-0.0 refl refl (λ f h. h) c.in_err-horizon.ensures.write c.from_residual.ensures.1

pub invariant_of-self-2 : goal.invariant_of-self-2
invariant_of-self-2 g c =
    let plan = arc_value c.self.inside.plan in
    let xs = c.self.inside.replicas.items in
    let ms = c.self.inside.messages.items in
    let k = c.args.self.now in
    let x = c.index_mut-replica.result.now in
    let below = below_kept plan xs ms c.self.invariant k c.self.view_is c.args.at c.requires in
    accepted_kept plan xs ms c.self.invariant k c.self.view_is c.args.at (Advance c.args.to) (advance_fault c.args.to) x c.advance.new.self _ _
    c.index_mut-replica.ensures.value below (advance_allowed x.sheet.plan c.args.to) c.in_ok-horizon.ensures.write

pub returns-clause-applied : goal.returns-clause-applied
returns-clause-applied g c =
    let plan = arc_value c.self.inside.plan in
    let xs = c.self.inside.replicas.items in
    let ms = c.self.inside.messages.items in
    let k = c.args.self.now in
    let x = c.index_mut-replica.result.now in
    let below = below_kept plan xs ms c.self.invariant k c.self.view_is c.args.at c.requires in
    let answered = ap replies.Horizon (c.in_ok-horizon.ensures.horizon ∙ ap (λ (q : WorldReplica). max q.horizon c.args.to) (sym (read plan xs ms c.self.invariant k c.self.view_is c.args.at x c.index_mut-replica.ensures.value below))) in
    accepted_applied plan xs ms c.self.invariant k c.self.view_is (events.Advance c.args.at c.args.to) (Advance c.args.to) (advance_fault c.args.to) x c.advance.new.self _ _ c.index_mut-replica.ensures.value below c.requires
    _ refl refl answered c.in_ok-horizon.ensures.write
