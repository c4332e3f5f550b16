-- The caches stay valid after an event, if it keeps the edits or a cache is replaced by a new one.
use Rattle.std.proofs.Common.{◌∙◌, arith, sym}
use Rattle.road_commands.proofs.QueryCaches.{cached_but_one, cached_on, run_below}
use Rattle.road_commands.proofs.laboratory.Laboratory.apply.Goals as goal

pub invariant_of-self-then-not-keeps_edits : goal.invariant_of-self-then-not-keeps_edits
invariant_of-self-then-not-keeps_edits g c =
    cached_but_one c.self.inside.replicas c.self.inside.world c.apply.new.self c.self.inside.caches.items c.args.event.now c.replica.result c.index_mut.result.now c.restart.new.self
    c.self.invariant c.in_ok-reply.ensures.applied.after c.replica.ensures
    (run_below c.self.inside.replicas c.self.inside.messages c.self.inside.world c.self.inside.caches.items _ c.self.view_is c.self.invariant c.replica.result (omega (arith, c.replica.ensures, c.requires)))
    c.index_mut.ensures.value c.restart.ensures

pub invariant_of-self-else-not-keeps_edits : goal.invariant_of-self-else-not-keeps_edits
invariant_of-self-else-not-keeps_edits g c =
    cached_on c.self.inside.replicas c.self.inside.world c.apply.new.self c.self.inside.caches.items c.args.event.now
    c.self.invariant c.in_ok-reply.ensures.applied.after (sym c.keeps_edits.ensures ∙ c.if-not-keeps_edits.false)
