-- The loop over the sites.
use Rattle.std.proofs.Common.{◌≡◌, ◌-◌, ◌<◌, ◌≤◌, ℕ, length, slice_index}
use Rattle.road_columns.specs.Private.CarsAt.{IsPlaceAt, from_place}
use Rattle.road_columns.proofs.cars.CarColumns.find_places.Given as goal

-- the places so far are found
abbrev pub invariant-loop-site : goal.invariant-loop-site
invariant-loop-site l = record {
  long : length l.places ≡ length l.fn.places;
  from : (d : ℕ) → d < l.site → l.self.head ≤ slice_index l.places d;
  each : (d : ℕ) → d < l.site → IsPlaceAt (l.self.tail - l.self.head) (from_place l.self.cells.items l.self.head) (slice_index l.sites d) (slice_index l.places d - l.self.head);
}
