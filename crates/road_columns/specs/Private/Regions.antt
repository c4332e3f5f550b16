-- Regions of a road. Within a region the rules are the same for all cells.
use Rattle.std.specs.Prelude.{◌≡◌, ℕ, ◌+◌, ◌-◌, ◌<◌, ◌≤◌, List, length, min, slice_index}
use Rattle.std.specs.List.{slice_index_or}
use Rattle.road_plan.specs.Plan.{Plan, exit_start, zone_of}
use Rattle.road_plan.specs.Settings.{Settings}
use Rattle.road_cells.specs.Gap.{ArePartedAt}
use Rattle.road_cells.specs.declared.car.TheConstants.{GREATEST_SPEED}
use Rattle.road_rules.specs.Speeds.{wanted_speed}
use Rattle.road_columns.specs.declared.regions.Region.{Region}

-- the speed limit of a zone, and its slowing chances for standing and for moving cars
pub record AreOfZone (limits starts chances : List ℕ) (zone limit standing moving : ℕ) : Type 0 where
  pub limit_is : limit ≡ slice_index limits zone
  pub standing_is : standing ≡ slice_index starts zone
  pub moving_is : moving ≡ slice_index chances zone

-- the region at an index of a list
abbrev pub region_at : List Region → ℕ → Region
region_at regions r = slice_index_or regions r
    (record { first = 0; chances = record { limit = 0; standing = 0; moving = 0 }; block = 0 })

-- no car is slowed in any of these regions
abbrev pub AreFree : List Region → Type 0
AreFree regions = (r : ℕ) → r < length regions
    → ((region_at regions r).chances.standing ≡ 0) × ((region_at regions r).chances.moving ≡ 0)

-- the car at a place is in region r, where `ends` has the place of the first car before each region
pub record IsOfRegion (count : ℕ) (ends : List ℕ) (r q : ℕ) : Type 0 where
  pub within : r < count
  pub before_end : q < slice_index ends r
  pub from : r + 1 < count → slice_index ends (r + 1) ≤ q

-- `ends` has the places of the first cars before `count` regions, from `from` to `to`: the place of the first region is
-- behind all cars, and that of each later region is in front of it
pub record AreEndsOf (count from to : ℕ) (ends : List ℕ) : Type 0 where
  pub as_many : length ends ≡ count
  pub last : slice_index ends 0 ≡ to
  pub from_on : (r : ℕ) → r < count → from ≤ slice_index ends r
  pub fall : (r : ℕ) → r + 1 < count → slice_index ends (r + 1) ≤ slice_index ends r

-- the speed of the car at a place by rules 1 and 2, with the next blocked cell at `block`
abbrev pub wish_at : ℕ → ℕ → List ℕ → List ℕ → ℕ → ℕ
wish_at limit block cells speeds q =
    wanted_speed (slice_index speeds q) limit
    (min GREATEST_SPEED (min (slice_index cells (q - 1)) block - (slice_index cells q + 1)))

-- a cell lies in region r
pub record IsInRegion (regions : List Region) (r c : ℕ) : Type 0 where
  pub within : r < length regions
  pub from : (region_at regions r).first ≤ c
  pub to : r + 1 < length regions → c < (region_at regions (r + 1)).first

-- the cells of region r have the same speed limit, the same slowing chances and the same next blocked cell
pub record IsRegionOf (p : Plan) (s : Settings) (regions : List Region) (r : ℕ) : Type 0 where
  pub reached : ℕ
  pub limit_allowed : (region_at regions r).chances.limit ≤ GREATEST_SPEED
  pub alike : (c : ℕ) → IsInRegion regions r c → c < exit_start p → AreOfZone s.limits s.starts s.chances (zone_of p c)
      (region_at regions r).chances.limit (region_at regions r).chances.standing (region_at regions r).chances.moving
  pub parted : (c : ℕ) → IsInRegion regions r c → c < exit_start p → ArePartedAt s.blocks c reached
  pub block_is : reached < length s.blocks → (region_at regions r).block ≡ slice_index s.blocks reached
  pub none_is : length s.blocks ≤ reached → (region_at regions r).block ≡ 65535

-- a region whose cells end before `end`: the rules are the same for all of them
pub record IsRegionTo (p : Plan) (s : Settings) (region : Region) (end : ℕ) : Type 0 where
  pub reached : ℕ
  pub some : region.first < end
  pub limit_allowed : region.chances.limit ≤ GREATEST_SPEED
  pub alike : (c : ℕ) → region.first ≤ c → c < end → c < exit_start p → AreOfZone s.limits s.starts s.chances
      (zone_of p c) region.chances.limit region.chances.standing region.chances.moving
  pub parted : (c : ℕ) → region.first ≤ c → c < end → ArePartedAt s.blocks c reached
  pub block_is : reached < length s.blocks → region.block ≡ slice_index s.blocks reached
  pub none_is : length s.blocks ≤ reached → region.block ≡ 65535
