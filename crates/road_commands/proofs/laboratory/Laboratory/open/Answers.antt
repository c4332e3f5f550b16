-- The caches are those of replicas before any command.
use Rattle.std.proofs.Common.{◌≤◌, ◌∙◌, ℕ, List, ap, length, string_bytes, subst, sym}
use Rattle.std.specs.Arc.{arc_value}
use Rattle.std.proofs.lemmas.List.{length-map}
use Rattle.road_plan.specs.declared.limits.TheConstants.{MOST_REPLICAS}
use Rattle.road_commands.proofs.QueryCaches.{cached_opening}
use Rattle.road_commands.proofs.laboratory.Laboratory.open.Goals as goal

pub invariant_of-result : goal.invariant_of-result
invariant_of-result g c =
    let as_many = ap (λ (names : List (List ℕ)). length names) c.in_ok-replicas.ensures ∙ length-map c.args.line.names.items string_bytes in
    let few = subst (λ (n : ℕ). n ≤ MOST_REPLICAS) (sym as_many) c.requires.few in
    cached_opening c.in_ok-replicas.replicas (arc_value c.in_ok-plan.plan) c.in_ok-world.world c.in_ok-caches.caches.items c.len-count.result
    c.in_ok-world.ensures.world c.len-count.ensures c.in_ok-caches.ensures.each few c.in_ok-caches.ensures.cached
