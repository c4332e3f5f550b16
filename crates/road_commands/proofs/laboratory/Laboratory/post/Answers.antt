-- An event that makes a message is one of the world, and leaves all caches unchanged.
use Rattle.std.proofs.Common.{◌∙◌, ◌≡◌, ◌++◌, ◌∷◌, [], List, ℕ, ap, length, rules, string_bytes, subst, sym, take}
use Rattle.std.proofs.Math.Seq.{take-append_seam}
use Rattle.road_commands.proofs.QueryCaches.{cached_on, laboratory_with, made_keeps}
use Rattle.road_commands.specs.Laboratory.{Laboratory, laboratory_of_winners}
use Rattle.road_commands.specs.Private.Caching.{IsCached}
use Rattle.road_world.specs.Answers.{fault_of_event}
use Rattle.road_world.specs.Events.{World, message_of_event, world_after_event, world_of_winners}
use Rattle.road_commands.proofs.laboratory.Laboratory.post.Goals as goal

pub post-requires-clause-accepted : goal.post-requires-clause-accepted
post-requires-clause-accepted g c =
    ap (λ (w : World). fault_of_event w c.args.event.now) (ap (λ (l : Laboratory). l.world) c.self.view_is) ∙ c.requires.accepted

pub post-requires-clause-made : goal.post-requires-clause-made
post-requires-clause-made g c =
    ap (λ (w : World). message_of_event w c.args.event.now) (ap (λ (l : Laboratory). l.world) c.self.view_is) ∙ c.requires.made

pub invariant_of-self-in-Ok : goal.invariant_of-self-in-Ok
invariant_of-self-in-Ok g c =
    cached_on c.self.inside.replicas c.self.inside.world c.post.new.self c.self.inside.caches.items c.args.event.now c.self.invariant
    (c.in-Ok.ensures.applied 0).after (made_keeps c.args.event.now c.args.self.now.world c.args.message c.requires.made)

pub invariant_of-self-in-Err : goal.invariant_of-self-in-Err
invariant_of-self-in-Err g c =
    subst (λ (w : World). IsCached c.self.inside.replicas w c.self.inside.caches.items) (sym (c.in-Err.ensures.applied 0).unchanged) c.self.invariant

pub returns-in-Ok-clause-after : goal.returns-in-Ok-clause-after
returns-in-Ok-clause-after g c =
    let e = c.args.event.now in
    let name = string_bytes c.args.name in
    let r = c.self.inside.replicas in
    let m = c.self.inside.messages in
    let w = c.self.inside.world in
    let named : c.add.new.self ≡ m ++ name ∷ [] = search rules in
    ap (λ (v : World). laboratory_with r c.add.new.self v) (c.in-Ok.ensures.applied 0).after
    ∙ ap (λ (ns : List (List ℕ)). laboratory_with r ns (world_of_winners (world_after_event e w))) named
    ∙ ap (λ (lab : Laboratory). laboratory_of_winners (record lab { message_names = lab.message_names ++ name ∷ []; world = world_after_event e lab.world })) c.self.view_is

pub returns-in-Err-clause-unchanged : goal.returns-in-Err-clause-unchanged
returns-in-Err-clause-unchanged g c =
    let r = c.self.inside.replicas in
    let m = c.self.inside.messages in
    let name = string_bytes c.args.name in
    let named : c.add.new.self ≡ m ++ name ∷ [] = search rules in
    let count : c.len-count.result ≡ length m = search rules in
    let cut = c.truncate.ensures ∙ ap (λ n. take n c.add.new.self) count ∙ ap (take (length m)) named ∙ take-append_seam m (name ∷ []) in
    ap (λ (v : World). laboratory_with r c.truncate.new.self v) (c.in-Err.ensures.applied 0).unchanged
    ∙ ap (λ (ns : List (List ℕ)). laboratory_with r ns c.self.inside.world) cut ∙ c.self.view_is
