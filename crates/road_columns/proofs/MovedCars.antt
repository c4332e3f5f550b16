-- The cars of all regions move by the speeds of the definition, and none reaches the car in front of it.
use Rattle.std.specs.Prelude.{◌≡◌, ℕ, ◌⊎◌, ◌+◌, ◌-◌, ◌*◌, ◌/◌, ◌%◌, ◌<◌, ◌≤◌, Bool, true, false, List, length, min, nat_eq, slice_index, slice_range, if◌then◌else◌}
use Rattle.std.proofs.Common.{ap, ◌∙◌, arith, inl, inr, refl, subst, sym}
use Rattle.std.proofs.lemmas.Bool.{cases_lt}
use Rattle.std.proofs.lemmas.Bool.Decides.{nat_tests}
use Rattle.std.specs.List.Sorted.{IsNonDecreasing}
use Rattle.road_plan.specs.Plan.{Plan, exit_start}
use Rattle.road_plan.specs.Settings.{Settings, Fits}
use Rattle.road_words.specs.Words.{word}
use Rattle.road_cells.specs.Array.{Array}
use Rattle.road_cells.specs.declared.car.TheConstants.{GREATEST_SPEED}
use Rattle.road_rules.specs.Speeds.{comes_about, slowed_speed}
use Rattle.road_ends.specs.Speed.{speeds}
use Rattle.road_columns.specs.Private.CarsAt.{IsPlaceAt, from_place}
use Rattle.road_columns.specs.Columns.{AreColumnsOf, mirrored}
use Rattle.road_columns.specs.Private.EnteredList.{ArePlacesRising, entered_in}
use Rattle.road_columns.specs.Private.LooseWords.{HaveLooseWords}
use Rattle.road_columns.specs.Private.Motion.{chance_at}
use Rattle.road_columns.specs.Private.Pieces.{IsHigh16At}
use Rattle.road_columns.specs.Private.Regions.{AreFree, IsInRegion, IsOfRegion, region_at, wish_at}
use Rattle.road_columns.specs.Private.Step.{AreCarsInColumn, AreRegionsOf}
use Rattle.road_columns.specs.declared.regions.Region.{Region}
use Rattle.road_columns.proofs.ColumnPlaces.{range_long}
use Rattle.road_columns.proofs.HighWords.{some_high16}
use Rattle.road_columns.proofs.PieceWishes.{falls}
use Rattle.road_columns.proofs.RegionPlaces.{of_region, region_of}
use Rattle.road_columns.proofs.RegionSpeeds.{region_speed}
use Rattle.road_columns.proofs.RegionWords.{high16_at}

slowed_small : (wish : ℕ) (event : Bool) → slowed_speed wish event ≤ wish
slowed_small wish true = omega arith
slowed_small wish false = omega arith

wish_small : (limit block q : ℕ) (cells old : List ℕ) → limit ≤ GREATEST_SPEED
    → (wish_at limit block cells old q ≤ min (slice_index cells (q - 1)) block - (slice_index cells q + 1)) × (wish_at limit block cells old q ≤ GREATEST_SPEED)
wish_small limit block q cells old few = ((omega arith), omega arith)

none_comes : (word chance : ℕ) → chance ≡ 0 → comes_about word chance ≡ false
none_comes word chance none = grind (arith, nat_tests)

chance_none : (speed standing moving : ℕ) → standing ≡ 0 → moving ≡ 0 → chance_at speed standing moving ≡ 0
chance_none speed standing moving none_standing none_moving = either (nat_eq speed 0)
  where
    either : (is : Bool) → (if is then standing else moving) ≡ 0
    either true = none_standing
    either false = none_moving

-- the next blocked cell in front of a region's cells is the one stored with the region
pub block_ahead : (p : Plan) (s : Settings) (regions : List Region) (r c : ℕ) → p.cells ≤ 65520 → AreRegionsOf p s regions → IsInRegion regions r c → c < exit_start p → c < (region_at regions r).block
block_ahead p s regions r c short are is on_road =
    let region = are.each r is.within in
    elim (cases_lt region.reached (length s.blocks)) as (λ _. c < (region_at regions r).block) [
      | inl some ↦
          let block = region.block_is some in
          let ahead = (region.parted c is on_road).ahead region.reached (omega arith) some in omega arith
      | inr none ↦ let far = region.none_is none in omega arith
    ]

module _ (p : Plan) (s : Settings) (t : ℕ) (regions : List Region) (cells old vs new numbers : List ℕ) (head tail width : ℕ) (rows : List ℕ) (n : ℕ) (beside : List ℕ) (batches : List (List ℕ)) (ends : List ℕ)
    (fits : Fits p s) (short : p.cells ≤ 65520) (rising : IsNonDecreasing s.blocks) (are : AreRegionsOf p s regions) (cars : AreCarsInColumn p head tail cells) (wide : tail ≤ width)
    (few : (i : ℕ) → i < n → i ≤ slice_index beside i) (places : ArePlacesRising n beside) (worded : Bool)
    (have : worded ≡ true → HaveLooseWords p.words (64 * (t / 64)) width (t % 64) rows (entered_in n beside batches) head tail cells (slice_index numbers))
    (free : worded ≡ false → AreFree regions)
    (from : (r : ℕ) → r < length regions → head ≤ slice_index ends r)
    (each : (r : ℕ) → r < length regions → IsPlaceAt (tail - head) (from_place cells head) (region_at regions r).first (slice_index ends r - head))
    (by_regions : (r q : ℕ) → IsOfRegion (length regions) ends r q → head ≤ q → (word : ℕ)
    → (0 < wish_at (region_at regions r).chances.limit (region_at regions r).block cells old q
    → IsHigh16At (slice_range rows (t % 64 * width) (t % 64 * width + width)) (4 * (t % 64 % 16) + t % 64 / 16) n beside batches q (word / 65536))
    → slice_index vs q ≡ slowed_speed (wish_at (region_at regions r).chances.limit (region_at regions r).block cells old q)
    (comes_about word (chance_at (slice_index old q) (region_at regions r).chances.standing (region_at regions r).chances.moving)))
    (moved : (q : ℕ) → head ≤ q → q < tail → slice_index new q ≡ slice_index cells q + slice_index vs q) where
  drawn : worded ≡ true → (q r : ℕ) → head ≤ q → q < tail → 0 < wish_at (region_at regions r).chances.limit (region_at regions r).block cells old q
      → IsHigh16At (slice_range rows (t % 64 * width) (t % 64 * width + width)) (4 * (t % 64 % 16) + t % 64 / 16) n beside batches q (word p.words (slice_index numbers q) t / 65536)
  drawn is q r low high moves =
      let now : 64 * (t / 64) + t % 64 ≡ t = omega arith in
      subst (λ u. IsHigh16At (slice_range rows (t % 64 * width) (t % 64 * width + width)) (4 * (t % 64 % 16) + t % 64 / 16) n beside batches q (word p.words (slice_index numbers q) u / 65536)) now
      (high16_at p.words (64 * (t / 64)) width (t % 64) rows n beside batches head tail cells old (slice_index numbers) q (region_at regions r).chances.limit (region_at regions r).block
      (omega arith) cars.falling low high wide few (have is) moves)

  -- an event of chance 0 never happens
  never : (chance : ℕ) → chance ≡ 0 → (u w wish : ℕ) → slowed_speed wish (comes_about u chance) ≡ slowed_speed wish (comes_about w chance)
  never chance none u w wish = let a : comes_about u chance ≡ false = none_comes u chance none in let b : comes_about w chance ≡ false = none_comes w chance none in
      ap (slowed_speed wish) (a ∙ sym b)

  no_chance : (r q : ℕ) → r < length regions → AreFree regions → chance_at (slice_index old q) (region_at regions r).chances.standing (region_at regions r).chances.moving ≡ 0
  no_chance r q within none = chance_none (slice_index old q) (region_at regions r).chances.standing (region_at regions r).chances.moving (none r within).0 (none r within).1

  -- the new speed follows rule 3 with the word of the car
  by_word : (q r : ℕ) → head ≤ q → q < tail → IsOfRegion (length regions) ends r q → (w : ℕ)
      → (0 < wish_at (region_at regions r).chances.limit (region_at regions r).block cells old q → word p.words (slice_index numbers q) t / 65536 ≡ w / 65536)
      → slice_index vs q ≡ slowed_speed (wish_at (region_at regions r).chances.limit (region_at regions r).block cells old q)
      (comes_about w (chance_at (slice_index old q) (region_at regions r).chances.standing (region_at regions r).chances.moving))
  by_word q r low high of w right = elim (bool_cases worded) as (λ _. slice_index vs q ≡ slowed_speed (wish_at (region_at regions r).chances.limit (region_at regions r).block cells old q)
      (comes_about w (chance_at (slice_index old q) (region_at regions r).chances.standing (region_at regions r).chances.moving))) [
        | inl is ↦ by_regions r q of low w (λ moves. subst (λ h. IsHigh16At (slice_range rows (t % 64 * width) (t % 64 * width + width)) (4 * (t % 64 % 16) + t % 64 / 16) n beside batches q h) (right moves) (drawn is q r low high moves))
        | inr not ↦
            let some = some_high16 (slice_range rows (t % 64 * width) (t % 64 * width + width)) (4 * (t % 64 % 16) + t % 64 / 16) n beside batches q places in
            let whole : some.0 ≡ some.0 * 65536 / 65536 = omega arith in
            by_regions r q of low (some.0 * 65536) (λ _. subst (λ h. IsHigh16At (slice_range rows (t % 64 * width) (t % 64 * width + width)) (4 * (t % 64 % 16) + t % 64 / 16) n beside batches q h) whole some.1)
            ∙ never (chance_at (slice_index old q) (region_at regions r).chances.standing (region_at regions r).chances.moving) (no_chance r q of.within (free not)) (some.0 * 65536) w (wish_at (region_at regions r).chances.limit (region_at regions r).block cells old q)
      ]
    where
      bool_cases : (b : Bool) → (b ≡ true) ⊎ (b ≡ false)
      bool_cases true = inl refl
      bool_cases false = inr refl

  -- the speeds are those of the definition, for the road whose cars are in the columns
  pub speed_is : (b : Array) → length b ≤ p.cells → AreColumnsOf b (slice_range cells head tail) (slice_range old head tail) (slice_range numbers head tail)
      → (q : ℕ) → head ≤ q → q < tail → slice_index vs q ≡ slice_index (speeds p s t b) (mirrored (tail - head) (q - head))
  speed_is b long columns q low high =
      let inside = cars.inside in
      let many = range_long cells head tail (omega arith) in
      let found = region_of regions (slice_index cells q) are.some are.begin in
      let in_region = found.1 in
      region_speed p s t b cells old numbers head tail regions found.0 q fits long short rising columns (omega arith) low high (cars.before_exit q low high) cars.front in_region
      (are.each found.0 in_region.within) (slice_index vs q)
      (by_word q found.0 low high (of_region regions ends head tail cells cars.order from each found.0 q in_region low high))
      ∙ ap (λ m. slice_index (speeds p s t b) (mirrored m (q - head))) many

  stays_behind : (q : ℕ) → head ≤ q → q < tail → (slice_index new q < slice_index cells (q - 1)) × (slice_index vs q ≤ GREATEST_SPEED)
  stays_behind q low high =
      let found = region_of regions (slice_index cells q) are.some are.begin in
      let in_region = found.1 in
      let region = are.each found.0 in_region.within in
      let is = by_word q found.0 low high (of_region regions ends head tail cells cars.order from each found.0 q in_region low high) (word p.words (slice_index numbers q) t) (λ _. refl) in
      let slow = slowed_small (wish_at (region_at regions found.0).chances.limit (region_at regions found.0).block cells old q)
      (comes_about (word p.words (slice_index numbers q) t) (chance_at (slice_index old q) (region_at regions found.0).chances.standing (region_at regions found.0).chances.moving)) in
      let small = wish_small (region_at regions found.0).chances.limit (region_at regions found.0).block q cells old region.limit_allowed in
      let free = small.0 in
      let most = small.1 in
      let block = block_ahead p s regions found.0 (slice_index cells q) short are in_region (cars.before_exit q low high) in
      let front = cars.front in
      let fall = falls head tail q cells cars.low cars.falling (λ some. let first = cars.before_exit head (omega arith) some in omega arith) low high in
      let move = moved q low high in
      bounds (slice_index vs q) (slowed_speed (wish_at (region_at regions found.0).chances.limit (region_at regions found.0).block cells old q)
      (comes_about (word p.words (slice_index numbers q) t) (chance_at (slice_index old q) (region_at regions found.0).chances.standing (region_at regions found.0).chances.moving)))
      (wish_at (region_at regions found.0).chances.limit (region_at regions found.0).block cells old q) (slice_index cells q) (slice_index cells (q - 1)) (region_at regions found.0).block (slice_index new q)
      is slow free most fall block move
    where
      bounds : (v slowed wish cell next block now : ℕ) → v ≡ slowed → slowed ≤ wish → wish ≤ min next block - (cell + 1) → wish ≤ GREATEST_SPEED → cell < next → cell < block → now ≡ cell + v
          → (now < next) × (v ≤ GREATEST_SPEED)
      bounds v slowed wish cell next block now is slow free most fall ahead move = ((omega arith), omega arith)

  -- no car reaches the one in front of it
  pub apart : (q : ℕ) → head ≤ q → q + 1 < tail → slice_index new (q + 1) < slice_index cells q
  apart q low high =
      let back : (q + 1) - 1 ≡ q = omega arith in
      let at = ap (slice_index cells) back in
      let behind = (stays_behind (q + 1) (omega arith) high).0 in omega arith

  pub slow_enough : (q : ℕ) → head ≤ q → q < tail → slice_index vs q ≤ GREATEST_SPEED
  slow_enough q low high = (stays_behind q low high).1
