-- A cache stays a cache of the sheet after its run is dropped.
use Rattle.std.proofs.Common.{refl}
use Rattle.tests_replicas.proofs.questions.answers_from_cache.Goals as goal

pub rows-requires : goal.rows-requires
rows-requires c = c.restart.ensures c.args.sheet.now c.args.sheet.now refl c.in_ok-totals.ensures.cached
