-- The edits that a replica holds beyond heads are the message of its event.
use Rattle.std.proofs.Common.{◌≡◌, ◌∙◌, List, None, ap, sym}
use Rattle.std.specs.Arc.{arc_value}
use Rattle.std.specs.List.{slice_get}
use Rattle.road_delta.specs.Deltas.{beyond}
use Rattle.road_delta.specs.declared.heads.Head.{Head}
use Rattle.road_world.proofs.EventAnswers.{fault_there}
use Rattle.road_world.proofs.KeptWorlds.{answer_made, below_kept}
use Rattle.road_world.specs.Answers.{heads_wanted_fault}
use Rattle.road_world.specs.Events.{World, asked_heads}
use Rattle.road_world.specs.declared.event.Event.TheVariants as events
use Rattle.road_world.specs.declared.message.Message.{Message}
use Rattle.road_world.proofs.world.World.delta_message.Goals as goal

pub returns-clause-made : goal.returns-clause-made
returns-clause-made c =
    let plan = arc_value c.self.inside.plan in
    let xs = c.self.inside.replicas.items in
    let ms = c.self.inside.messages.items in
    let k = c.args.self.now in
    let below = below_kept plan xs ms c.self.invariant k c.self.view_is c.args.at c.requires in
    let m = c.args.message in
    let held = c.deref.ensures.value ∙ ap (λ (w : World). w.messages) c.self.view_is in
    let wanted : heads_wanted_fault (slice_get k.messages m) ≡ None = ap (λ (ns : List Message). heads_wanted_fault (slice_get ns m)) (sym held) ∙ c.in-Some.ensures.wanted in
    let asked : c.in-Some.heads.now ≡ asked_heads (slice_get k.messages m) = c.in-Some.ensures.heads ∙ ap (λ (ns : List Message). asked_heads (slice_get ns m)) held in
    let delta = c.in_ok-delta.ensures.delta ∙ ap (λ (ts : List Head). beyond c.index.result.now.sheet.edits ts) asked in (
      fault_there k (events.Beyond c.args.at m) c.requires ∙ wanted,
      answer_made plan xs ms c.self.invariant k c.self.view_is c.args.at c.index.result.now m c.in_ok-delta.delta c.index.ensures below delta,
    )
