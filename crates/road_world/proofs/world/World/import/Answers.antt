-- Imported edits reach the world's replica, or are refused as the world's definition says.
use Rattle.std.proofs.Common.{◌∙◌, List, Some, ap, sym}
use Rattle.std.specs.Arc.{arc_value}
use Rattle.std.specs.Option.{option_map}
use Rattle.lattice_core.specs.Sets.{from_list}
use Rattle.road_plan.specs.Plan.{Plan}
use Rattle.road_replica.specs.Refusals.{import_fault}
use Rattle.road_replica.specs.declared.reply.Reply.TheVariants as replies
use Rattle.road_scenario.specs.declared.edit.Edit.{Edit}
use Rattle.road_sheet.specs.Commands.{Take}
use Rattle.road_world.proofs.AppliedEvents.{accepted_applied, accepted_kept, import_allowed, refused_applied}
use Rattle.road_world.proofs.KeptWorlds.{below_kept, is_replica, plan_same, same_touched}
use Rattle.road_world.specs.Answers.{touched_reply}
use Rattle.road_world.specs.declared.event.Event.TheVariants as events
use Rattle.road_world.specs.declared.faults.WorldFault.TheVariants as faults
use Rattle.road_world.proofs.world.World.import.Goals as goal

pub returns-in_err-touched-clause-applied : goal.returns-in_err-touched-clause-applied
returns-in_err-touched-clause-applied g c =
    let plan = arc_value c.self.inside.plan in
    let xs = c.self.inside.replicas.items in
    let ms = c.self.inside.messages.items in
    let k = c.args.self.now in
    let x = c.index_mut-replica.result.now in
    let es = c.deref.result.now in
    let below = below_kept plan xs ms c.self.invariant k c.self.view_is c.args.at c.requires in
    let same_plan = (is_replica plan xs ms c.self.invariant c.args.at x c.index_mut-replica.ensures.value below).plan_is ∙ plan_same plan xs ms c.self.invariant k c.self.view_is in
    let of = ap (λ (l : List Edit). Some (Take (from_list l))) (sym c.deref.ensures.value) in
    let at = ap (λ (l : List Edit). option_map faults.Replica (import_fault k.plan l)) (sym c.deref.ensures.value) ∙ ap (λ (p : Plan). option_map faults.Replica (import_fault p es)) (sym same_plan) in
    refused_applied plan xs ms c.self.invariant k c.self.view_is (events.Import c.args.at c.args.edits.now) (Take (from_list es)) (import_fault x.sheet.plan es) x c.import.new.self _ _ c.index_mut-replica.ensures.value below c.requires
    c.from_residual.result c.in_err-touched.field-0.0 of at (λ f h. h) c.in_err-touched.ensures.write c.from_residual.ensures.1

pub invariant_of-self-2 : goal.invariant_of-self-2
invariant_of-self-2 g c =
    let plan = arc_value c.self.inside.plan in
    let xs = c.self.inside.replicas.items in
    let ms = c.self.inside.messages.items in
    let k = c.args.self.now in
    let x = c.index_mut-replica.result.now in
    let es = c.deref.result.now in
    let below = below_kept plan xs ms c.self.invariant k c.self.view_is c.args.at c.requires in
    accepted_kept plan xs ms c.self.invariant k c.self.view_is c.args.at (Take (from_list es)) (import_fault x.sheet.plan es) x c.import.new.self _ _
    c.index_mut-replica.ensures.value below (import_allowed x.sheet.plan es) c.in_ok-touched.ensures.write

pub returns-clause-applied : goal.returns-clause-applied
returns-clause-applied g c =
    let plan = arc_value c.self.inside.plan in
    let xs = c.self.inside.replicas.items in
    let ms = c.self.inside.messages.items in
    let k = c.args.self.now in
    let x = c.index_mut-replica.result.now in
    let es = c.deref.result.now in
    let below = below_kept plan xs ms c.self.invariant k c.self.view_is c.args.at c.requires in
    let same_plan = (is_replica plan xs ms c.self.invariant c.args.at x c.index_mut-replica.ensures.value below).plan_is ∙ plan_same plan xs ms c.self.invariant k c.self.view_is in
    let of = ap (λ (l : List Edit). Some (Take (from_list l))) (sym c.deref.ensures.value) in
    let at = ap (λ (l : List Edit). option_map faults.Replica (import_fault k.plan l)) (sym c.deref.ensures.value) ∙ ap (λ (p : Plan). option_map faults.Replica (import_fault p es)) (sym same_plan) in
    let answered = ap replies.Touched (c.in_ok-touched.ensures.touched ∙ same_touched plan xs ms c.self.invariant k c.self.view_is c.args.at x (from_list es) c.index_mut-replica.ensures.value below)
    ∙ ap (λ (l : List Edit). touched_reply k c.args.at (from_list l)) c.deref.ensures.value in
    accepted_applied plan xs ms c.self.invariant k c.self.view_is (events.Import c.args.at c.args.edits.now) (Take (from_list es)) (import_fault x.sheet.plan es) x c.import.new.self _ _ c.index_mut-replica.ensures.value below c.requires
    _ of at answered c.in_ok-touched.ensures.write
