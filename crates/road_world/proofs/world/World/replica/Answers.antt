-- The replica at a place has the place as its number, and has the sheet that the world's definition says.
use Rattle.std.proofs.Common.{◌∙◌, ◌<◌, List, ap, length, subst}
use Rattle.std.specs.Arc.{arc_value}
use Rattle.std.specs.List.{slice_index_or}
use Rattle.road_replica.specs.Replicas.{Replica}
use Rattle.road_world.proofs.KeptWorlds.{if_both, is_replica, with_sheet}
use Rattle.road_world.proofs.world.World.replica.Goals as goal

pub returns-clause-number : goal.returns-clause-number
returns-clause-number c =
    let e = c.deref.ensures.value in
    let r = c.args.number in
    if_both _ _ _ _ c.get.result c.get.ensures.lookup.1 c.get.ensures.lookup.3 (λ x is inside.
    (is_replica (arc_value c.self.inside.plan) c.self.inside.replicas.items c.self.inside.messages.items c.self.invariant r x.now (is ∙ ap (λ (ys : List Replica). slice_index_or ys r x.now) e)
    (subst (λ (ys : List Replica). r < length ys) e inside.0)).number_is)

pub returns-clause-sheet : goal.returns-clause-sheet
returns-clause-sheet c =
    let e = c.deref.ensures.value in
    let r = c.args.number in
    if_both _ _ _ _ c.get.result c.get.ensures.lookup.1 c.get.ensures.lookup.3 (λ x is inside.
    ap (λ (y : Replica). y.sheet) (with_sheet (arc_value c.self.inside.plan) c.self.inside.replicas.items c.self.inside.messages.items c.self.invariant c.args.self.now c.self.view_is r x.now
    (is ∙ ap (λ (ys : List Replica). slice_index_or ys r x.now) e) (subst (λ (ys : List Replica). r < length ys) e inside.0)))

pub returns-clause-is_sheet : goal.returns-clause-is_sheet
returns-clause-is_sheet c =
    let e = c.deref.ensures.value in
    let r = c.args.number in
    if_both _ _ _ _ c.get.result c.get.ensures.lookup.1 c.get.ensures.lookup.3 (λ x is inside.
    (is_replica (arc_value c.self.inside.plan) c.self.inside.replicas.items c.self.inside.messages.items c.self.invariant r x.now (is ∙ ap (λ (ys : List Replica). slice_index_or ys r x.now) e)
    (subst (λ (ys : List Replica). r < length ys) e inside.0)).sheet)
