-- A new crew has never answered `WorkersGone`.
use Rattle.std.proofs.Common.{rules}
use Rattle.road_workers.proofs.scoped.Scoped.new.Goals as goal

pub returns : goal.returns
returns g c = search rules
