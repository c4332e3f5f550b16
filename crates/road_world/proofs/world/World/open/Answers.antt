-- One more replica is opened, with the number of its place.
use Rattle.std.proofs.Common.{◌≤◌, ◌+◌, List, arith, sym, subst}
use Rattle.std.specs.Arc.{arc_value}
use Rattle.road_plan.specs.declared.limits.TheConstants.{MOST_REPLICAS}
use Rattle.road_replica.specs.Replicas.{Replica}
use Rattle.road_world.proofs.KeptWorlds.{AreOpened, one_more_opened, opened_kept}
use Rattle.road_world.specs.Private.Worlds.{IsWorldKept}
use Rattle.road_world.specs.declared.message.Message.{Message}
use Rattle.road_world.proofs.world.World.open.Goals as goal

pub invariant_of-result : goal.invariant_of-result
invariant_of-result c =
    let plan = arc_value c.args.plan in
    let xs = c.loop-number.opened.items in
    let few : c.loop-number.number ≤ MOST_REPLICAS = omega (arith, c.loop-number.auto.number-end, c.requires) in
    subst (λ (ms : List Message). IsWorldKept plan xs ms) (sym c.new.ensures.items) (opened_kept plan c.loop-number.number xs c.loop-number.invariant few)

pub loop-number-preserved : goal.loop-number-preserved
loop-number-preserved c =
    let plan = arc_value c.args.plan in
    let n = c.loop-number.number in
    let x = c.in_ok-opening_replica.field-0 in
    subst (λ (xs : List Replica). AreOpened plan (n + 1) xs) (sym {A = List Replica} c.in_ok-push.ensures.items) (one_more_opened plan n c.loop-number.opened.items x c.loop-number.invariant c.in_ok-opening_replica.ensures.within c.in_ok-opening_replica.ensures.replica)
