-- The loop over the sites.
use Rattle.std.proofs.Common.{◌≡◌, ◌<◌, ◌≤◌, ℕ, length, slice_index}
use Rattle.road_columns.specs.Private.Entering.{place_beside}
use Rattle.road_columns.proofs.cars.move_places.Given as goal

-- the sites so far are done, the others not
abbrev pub invariant-loop-site : goal.invariant-loop-site
invariant-loop-site l = record {
  long : length l.places ≡ length l.fn.places;
  done : (d : ℕ) → d < l.site → slice_index l.places d ≡ place_beside (slice_index l.sites d) l.cell (slice_index l.fn.places d);
  rest : (d : ℕ) → l.site ≤ d → slice_index l.places d ≡ slice_index l.fn.places d;
}
