-- The message of an event is added.
use Rattle.std.proofs.Common.{◌≡◌, List, ap, arith, length, subst, sym}
use Rattle.std.specs.Arc.{arc_value}
use Rattle.road_world.proofs.AppliedEvents.{post_applied}
use Rattle.road_world.proofs.KeptWorlds.{posted_kept}
use Rattle.road_world.specs.Events.{World}
use Rattle.road_world.specs.Private.Worlds.{IsWorldKept}
use Rattle.road_world.specs.declared.message.Message.{Message}
use Rattle.road_world.proofs.world.World.post.Goals as goal

pub invariant_of-self-2 : goal.invariant_of-self-2
invariant_of-self-2 c =
    let plan = arc_value c.self.inside.plan in
    let xs = c.self.inside.replicas.items in
    let ms = c.self.inside.messages.items in
    let kept = posted_kept plan xs ms c.self.invariant c.args.self.now c.self.view_is c.args.event.now c.args.message c.requires.accepted c.requires.made in
    subst (λ (ns : List Message). IsWorldKept plan xs ns) (sym c.in_ok-push.ensures.items) kept

pub returns : goal.returns
returns c =
    let plan = arc_value c.self.inside.plan in
    let xs = c.self.inside.replicas.items in
    let ms = c.self.inside.messages.items in
    let same : length ms ≡ length c.args.self.now.messages = ap (λ (w : World). length w.messages) c.self.view_is in
    let number : c.len-number.result ≡ length c.args.self.now.messages = omega (arith, c.len-number.ensures, c.self.inside.messages.ok.0, same) in record {
      applied = λ meter. post_applied plan xs ms c.push.new.self.items c.self.invariant c.args.self.now c.self.view_is c.args.event.now c.args.message c.requires.accepted c.requires.made
          c.len-number.result meter number c.in_ok-push.ensures.items;
    }
