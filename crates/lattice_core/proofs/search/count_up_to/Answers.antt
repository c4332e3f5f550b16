-- The pairs up to a key are the first ones.
use Rattle.std.proofs.Common.{not, rules}
use Rattle.std.specs.Ordering.{is_lt}
use Rattle.std.proofs.lemmas.List.Sorted.{IsPartitionPoint-from_clause}
use Rattle.lattice_core.proofs.KeyPlaces.{count-of-partition, partitioned}
use Rattle.lattice_core.proofs.search.count_up_to.Goals as goal

pub returns-clause-count : goal.returns-clause-count
returns-clause-count g c =
    let cmp = g.K.Ord.cmp in
    count-of-partition cmp c.args.key c.args.pairs.now c.partition_point.result c.partition_point.ensures.bound
    (IsPartitionPoint-from_clause (λ p. not (is_lt (cmp c.args.key p.0))) _ _ c.partition_point.ensures.partitioned
    (partitioned cmp g.met.K.Ord.total c.args.key c.args.pairs.now c.requires) (λ a r q k. search rules))
