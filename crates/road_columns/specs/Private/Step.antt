-- A step of the cars in columns.
use Rattle.std.specs.Prelude.{◌≡◌, ℕ, ◌+◌, ◌-◌, ◌<◌, ◌≤◌, List, length, slice_index}
use Rattle.std.specs.List.{slice_index_or}
use Rattle.road_plan.specs.Plan.{Plan, exit_start}
use Rattle.road_plan.specs.Settings.{Settings}
use Rattle.road_columns.specs.Private.LooseWords.{AreFalling}
use Rattle.road_columns.specs.Private.Regions.{IsRegionOf, region_at}
use Rattle.road_columns.specs.declared.regions.Region.{Region}

-- cars before the exit at the places from head to before tail, the one at the far end first, between a cell past every
-- road and the cell 0
pub record AreCarsInColumn (p : Plan) (head tail : ℕ) (cells : List ℕ) : Type 0 where
  pub low : 0 < head
  pub order : head ≤ tail
  pub inside : tail < length cells
  pub front : p.cells + 10 ≤ slice_index cells (head - 1)
  pub behind : slice_index cells tail ≡ 0
  pub falling : AreFalling cells head tail
  pub before_exit : (i : ℕ) → head ≤ i → i < tail → slice_index cells i < exit_start p

-- regions of a road, from the first cell up to the exit
pub record AreRegionsOf (p : Plan) (s : Settings) (regions : List Region) : Type 0 where
  pub some : 0 < length regions
  pub begin : (region_at regions 0).first ≡ 0
  pub rising : (r : ℕ) → r + 1 < length regions → (region_at regions r).first < (region_at regions (r + 1)).first
  pub before_exit : (r : ℕ) → r < length regions → (region_at regions r).first < exit_start p
  pub each : (r : ℕ) → r < length regions → IsRegionOf p s regions r

-- the sites of a road: the cells of the inlets, then those of the detectors, then the first cells of the regions
pub record AreSitesOf (p : Plan) (regions : List Region) (sites : List ℕ) : Type 0 where
  pub as_many : length sites ≡ length p.inlets + length p.detectors + length regions
  pub inlets : (i : ℕ) → i < length p.inlets → slice_index sites i ≡ (slice_index_or p.inlets i (0, 0)).0
  pub detectors : (d : ℕ) → d < length p.detectors → slice_index sites (length p.inlets + d) ≡ slice_index p.detectors d
  pub firsts : (r : ℕ) → r < length regions → slice_index sites (length p.inlets + length p.detectors + r)
      ≡ (region_at regions r).first

-- the first of the cars at the places from head to before tail leaves if it has reached the exit; then the next one is
-- the first
pub record LetsLeave (exit : ℕ) (cells cells' : List ℕ) (head result tail : ℕ) : Type 0 where
  pub from : head ≤ result
  pub to : result ≤ head + 1
  pub order : result ≤ tail
  pub long : length cells' ≡ length cells
  pub kept : (i : ℕ) → i < head → slice_index cells' i ≡ slice_index cells i
  pub rest : (i : ℕ) → result ≤ i → slice_index cells' i ≡ slice_index cells i
  pub front : result ≡ head + 1 → slice_index cells' (result - 1) ≡ 65535
  pub left : (i : ℕ) → head ≤ i → i < result → exit ≤ slice_index cells i
  pub stay : (i : ℕ) → result ≤ i → i < tail → slice_index cells i < exit
