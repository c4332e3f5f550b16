-- The loop that makes a place for each worker.
use Rattle.std.proofs.Common.{◌≡◌, ◌<◌, ℕ, vec_len, slice_index_or}
use Rattle.std.specs.declared.option.Option.TheVariants.{None}
use Rattle.road_workers.proofs.pool.places.places_for.Given as goal

abbrev pub invariant-loop : goal.invariant-loop
invariant-loop g l = record {
  count : vec_len l.places ≡ l.counter;
  empty : (w : ℕ) (d : _) → w < vec_len l.places → slice_index_or l.places.items w d ≡ None;
}
