-- No inlet is before the one that is found.
use Rattle.std.proofs.Common.{◌≤◌, arith}
use Rattle.std.specs.List.{slice_index_or}
use Rattle.road_ends.proofs.CellsBetweenInlets.{no_inlet}
use Rattle.road_ends.proofs.entries.next_inlet.Goals as goal

pub returns-clause-first : goal.returns-clause-first
returns-clause-first c cell low high = no_inlet c.args.inlets.now cell (λ k below same.
    let past : c.loop-inlet.next ≤ (slice_index_or c.args.inlets.now k (0, 0)).0 = c.loop-inlet.invariant.first k (omega arith) (omega arith) in
    omega arith)
