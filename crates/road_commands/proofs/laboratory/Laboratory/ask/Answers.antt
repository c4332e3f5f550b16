-- A cache belongs to its replica's sheet, before a query and after it.
use Rattle.std.proofs.Common.{◌∙◌}
use Rattle.road_commands.proofs.QueryCaches.{cached_read, cached_shown, run_below}
use Rattle.road_commands.proofs.laboratory.Laboratory.ask.Goals as goal

pub ask_sheet-requires-clause-cache : goal.ask_sheet-requires-clause-cache
ask_sheet-requires-clause-cache g c =
    cached_read c.self.inside.replicas c.self.inside.world c.self.inside.caches.items c.args.at c.index_mut-cache.result.now c.deref.result.now c.self.invariant
    (run_below c.self.inside.replicas c.self.inside.messages c.self.inside.world c.self.inside.caches.items _ c.self.view_is c.self.invariant c.args.at c.requires.there)
    c.index_mut-cache.ensures.value (c.deref.ensures ∙ c.sheet.ensures.sheet ∙ c.in-Some.ensures.sheet)

pub invariant_of-self : goal.invariant_of-self
invariant_of-self g c =
    cached_shown c.self.inside.replicas c.self.inside.world c.self.inside.caches.items c.args.at c.ask_sheet.new.cache c.deref.result.now c.self.invariant
    (c.deref.ensures ∙ c.sheet.ensures.sheet ∙ c.in-Some.ensures.sheet) c.ask_sheet.ensures.cached
