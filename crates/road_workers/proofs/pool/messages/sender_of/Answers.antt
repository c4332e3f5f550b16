-- What is read below the length does not depend on the default.
use Rattle.std.proofs.Common.{ap}
use Rattle.std.proofs.lemmas.List.{get_or_default}
use Rattle.road_workers.specs.declared.pool.Worker.{Worker}
use Rattle.road_workers.proofs.pool.messages.sender_of.Goals as goal

pub returns : goal.returns
returns c = λ d. ap (λ (w : Worker). w.jobs) (get_or_default c.args.workers.now c.args.worker c.index-workers-worker.result d c.requires)
