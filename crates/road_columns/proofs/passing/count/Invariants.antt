-- The loop over the sites.
use Rattle.std.proofs.Common.{◌≡◌, ◌+◌, ◌<◌, ◌≤◌, ℕ, length, slice_index, false}
use Rattle.std.specs.List.{slice_index_or}
use Rattle.road_columns.specs.Private.Sites.{passes_of}
use Rattle.road_columns.proofs.passing.count.Given as goal

-- the sites so far are done, the others not
abbrev pub invariant-loop-site : goal.invariant-loop-site
invariant-loop-site l = record {
  as_many_passes : length l.passes ≡ length l.fn.passes;
  passes_done : (d : ℕ) → d < l.site → slice_index l.passes d ≡ slice_index l.fn.passes d + passes_of l.cells l.speeds (slice_index_or l.watched d false) (slice_index l.sites d) (slice_index l.places d);
  passes_rest : (d : ℕ) → l.site ≤ d → slice_index l.passes d ≡ slice_index l.fn.passes d;
}
