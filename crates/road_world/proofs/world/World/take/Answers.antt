-- A message's edits reach the world's replica, or are refused as the world's definition says.
use Rattle.std.proofs.Common.{◌≡◌, ◌∙◌, List, None, Some, ap, sym}
use Rattle.std.specs.Arc.{arc_value}
use Rattle.std.specs.List.{slice_get}
use Rattle.road_replica.specs.declared.reply.Reply.TheVariants as replies
use Rattle.road_scenario.specs.Edits.{Edits}
use Rattle.road_sheet.specs.Commands.{Take}
use Rattle.road_world.proofs.AppliedEvents.{accepted_applied, accepted_kept, refused_applied}
use Rattle.road_world.proofs.KeptWorlds.{below_kept, carried_in_range, same_touched}
use Rattle.road_world.specs.Answers.{edits_wanted_fault, touched_reply}
use Rattle.road_world.specs.Events.{World, carried_edits}
use Rattle.road_world.specs.declared.event.Event.TheVariants as events
use Rattle.road_world.specs.declared.message.Message.{Message}
use Rattle.road_world.proofs.world.World.take.Goals as goal

pub join-requires : goal.join-requires
join-requires g c =
    let plan = arc_value c.self.inside.plan in
    let xs = c.self.inside.replicas.items in
    let ms = c.self.inside.messages.items in
    let k = c.args.self.now in
    let x = c.index_mut-replica.result.now in
    let below = below_kept plan xs ms c.self.invariant k c.self.view_is c.args.at c.requires in
    carried_in_range plan xs ms c.self.invariant k c.self.view_is c.args.at x c.args.message c.in-Some.scenario.now _ c.index_mut-replica.ensures.value below c.deref.ensures.value c.in-Some.ensures.edits c.in-Some.ensures.wanted

pub returns-in_err-touched-clause-applied : goal.returns-in_err-touched-clause-applied
returns-in_err-touched-clause-applied g c =
    let plan = arc_value c.self.inside.plan in
    let xs = c.self.inside.replicas.items in
    let ms = c.self.inside.messages.items in
    let k = c.args.self.now in
    let x = c.index_mut-replica.result.now in
    let m = c.args.message in
    let edits = c.in-Some.scenario.now in
    let below = below_kept plan xs ms c.self.invariant k c.self.view_is c.args.at c.requires in
    let wanted : edits_wanted_fault (slice_get ms m) ≡ None = ap (λ (ns : List Message). edits_wanted_fault (slice_get ns m)) (sym c.deref.ensures.value) ∙ c.in-Some.ensures.wanted in
    let same : edits ≡ carried_edits (slice_get ms m) = c.in-Some.ensures.edits ∙ ap (λ (ns : List Message). carried_edits (slice_get ns m)) c.deref.ensures.value in
    let of = ap (λ (w : World). Some (Take (carried_edits (slice_get w.messages m)))) (sym c.self.view_is) ∙ ap (λ (s : Edits). Some (Take s)) (sym same) in
    let at = ap (λ (w : World). edits_wanted_fault (slice_get w.messages m)) (sym c.self.view_is) ∙ wanted in
    refused_applied plan xs ms c.self.invariant k c.self.view_is (events.Take c.args.at m) (Take edits) None x c.join.new.self _ _ c.index_mut-replica.ensures.value below c.requires
    c.from_residual.result c.in_err-touched.field-0.0 of at (λ f h. h) c.in_err-touched.ensures.write c.from_residual.ensures.1

pub invariant_of-self-2 : goal.invariant_of-self-2
invariant_of-self-2 g c =
    let plan = arc_value c.self.inside.plan in
    let xs = c.self.inside.replicas.items in
    let ms = c.self.inside.messages.items in
    let k = c.args.self.now in
    let x = c.index_mut-replica.result.now in
    let edits = c.in-Some.scenario.now in
    let below = below_kept plan xs ms c.self.invariant k c.self.view_is c.args.at c.requires in
    let fits = carried_in_range plan xs ms c.self.invariant k c.self.view_is c.args.at x c.args.message edits _ c.index_mut-replica.ensures.value below c.deref.ensures.value c.in-Some.ensures.edits c.in-Some.ensures.wanted in
    accepted_kept plan xs ms c.self.invariant k c.self.view_is c.args.at (Take edits) None x c.join.new.self _ _
    c.index_mut-replica.ensures.value below (λ _. fits) c.in_ok-touched.ensures.write

pub returns-clause-applied : goal.returns-clause-applied
returns-clause-applied g c =
    let plan = arc_value c.self.inside.plan in
    let xs = c.self.inside.replicas.items in
    let ms = c.self.inside.messages.items in
    let k = c.args.self.now in
    let x = c.index_mut-replica.result.now in
    let m = c.args.message in
    let edits = c.in-Some.scenario.now in
    let below = below_kept plan xs ms c.self.invariant k c.self.view_is c.args.at c.requires in
    let wanted : edits_wanted_fault (slice_get ms m) ≡ None = ap (λ (ns : List Message). edits_wanted_fault (slice_get ns m)) (sym c.deref.ensures.value) ∙ c.in-Some.ensures.wanted in
    let carried : edits ≡ carried_edits (slice_get ms m) = c.in-Some.ensures.edits ∙ ap (λ (ns : List Message). carried_edits (slice_get ns m)) c.deref.ensures.value in
    let same : edits ≡ carried_edits (slice_get k.messages m) = carried ∙ ap (λ (w : World). carried_edits (slice_get w.messages m)) c.self.view_is in
    let of = ap (λ (s : Edits). Some (Take s)) (sym same) in
    let at = ap (λ (w : World). edits_wanted_fault (slice_get w.messages m)) (sym c.self.view_is) ∙ wanted in
    let answered = ap replies.Touched (c.in_ok-touched.ensures.touched ∙ same_touched plan xs ms c.self.invariant k c.self.view_is c.args.at x edits c.index_mut-replica.ensures.value below)
    ∙ ap (λ (s : Edits). touched_reply k c.args.at s) same in
    accepted_applied plan xs ms c.self.invariant k c.self.view_is (events.Take c.args.at m) (Take edits) None x c.join.new.self _ _ c.index_mut-replica.ensures.value below c.requires
    _ of at answered c.in_ok-touched.ensures.write
