-- The speeds that the motion of the regions gives are those of the cars.
use Rattle.std.specs.Prelude.{◌≡◌, ℕ, ◌+◌, ◌-◌, ◌/◌, ◌<◌, ◌≤◌, ◌⊎◌, List, length, min, slice_index, slice_range}
use Rattle.std.proofs.Common.{sym, ap, ◌∙◌, arith, refl, inl, inr, subst}
use Rattle.std.proofs.lemmas.Bool.{cases_lt}
use Rattle.std.specs.List.Sorted.{IsNonDecreasing}
use Rattle.road_plan.specs.Plan.{Plan, exit_start, zone_of}
use Rattle.road_plan.specs.Settings.{Settings, Fits}
use Rattle.road_words.specs.Words.{word}
use Rattle.road_cells.specs.Array.{Array}
use Rattle.road_cells.specs.Gap.{ArePartedAt}
use Rattle.road_cells.specs.declared.car.TheConstants.{GREATEST_SPEED}
use Rattle.road_rules.specs.Speeds.{wanted_speed, slowed_speed, comes_about}
use Rattle.road_ends.specs.Speed.{speeds}
use Rattle.road_columns.proofs.SpeedAhead.{IsNthOrNowhere}
use Rattle.road_columns.specs.Columns.{AreColumnsOf, mirrored}
use Rattle.road_columns.specs.Private.Motion.{chance_at}
use Rattle.road_columns.specs.Private.Regions.{AreOfZone, IsInRegion, IsRegionOf, region_at, wish_at}
use Rattle.road_columns.specs.declared.regions.Region.{Region}
use Rattle.road_columns.proofs.ColumnPlaces.{range_at, range_long}
use Rattle.road_columns.proofs.ColumnSpeeds.{column_speed}

module _ (p : Plan) (s : Settings) (t : ℕ) (a : Array) (cells old numbers : List ℕ) (head tail : ℕ) (regions : List Region) (r q : ℕ)
    (fits : Fits p s) (long : length a ≤ p.cells) (short : p.cells ≤ 65520) (rising : IsNonDecreasing s.blocks)
    (columns : AreColumnsOf a (slice_range cells head tail) (slice_range old head tail) (slice_range numbers head tail))
    (within : tail ≤ length cells) (low : head ≤ q) (high : q < tail) (on_road : slice_index cells q < exit_start p) (front : p.cells + 10 ≤ slice_index cells (head - 1))
    (in_region : IsInRegion regions r (slice_index cells q)) (region : IsRegionOf p s regions r) where
  abbrev wish : ℕ
  wish = wish_at (region_at regions r).chances.limit (region_at regions r).block cells old q

  pub region_speed : (v : ℕ)
      → ((w : ℕ) → (0 < wish → word p.words (slice_index numbers q) t / 65536 ≡ w / 65536)
      → v ≡ slowed_speed wish (comes_about w (chance_at (slice_index old q) (region_at regions r).chances.standing (region_at regions r).chances.moving)))
      → v ≡ slice_index (speeds p s t a) (mirrored (length (slice_range cells head tail)) (q - head))
  region_speed v is = elim (cases_lt region.reached (length s.blocks)) as (λ _. v ≡ slice_index (speeds p s t a) (mirrored (length (slice_range cells head tail)) (q - head))) [
    | inl some ↦
        let b = region.block_is some in
        by_front (slice_index s.blocks region.reached) (record { here = λ _. refl; none = λ past. absurd (omega arith) })
        (λ ahead ahead' far. elim far as (λ _. min GREATEST_SPEED (min ahead (region_at regions r).block - (slice_index cells q + 1)) ≡ min GREATEST_SPEED (min ahead' (slice_index s.blocks region.reached) - (slice_index cells q + 1))) [
          | inl same ↦ λ i. min GREATEST_SPEED (min (same i) (b i) - (slice_index cells q + 1))
          | inr both ↦ let x = both.0 in let y = both.1 in omega arith
        ])
    | inr none ↦
        let b = region.none_is none in
        by_front 4294967295 (record { here = λ below. absurd (omega arith); none = λ _. refl })
        (λ ahead ahead' far. elim far as (λ _. min GREATEST_SPEED (min ahead (region_at regions r).block - (slice_index cells q + 1)) ≡ min GREATEST_SPEED (min ahead' 4294967295 - (slice_index cells q + 1))) [
          | inl same ↦ omega arith
          | inr both ↦ let x = both.0 in let y = both.1 in omega arith
        ])
  ]
    where
      i : ℕ
      i = q - head

      here : head + (q - head) ≡ q
      here = omega arith

      cell_is : slice_index (slice_range cells head tail) (q - head) ≡ slice_index cells q
      cell_is = range_at cells head tail (q - head) (omega arith) ∙ ap (slice_index cells) here

      speed_is : slice_index (slice_range old head tail) (q - head) ≡ slice_index old q
      speed_is = range_at old head tail (q - head) (omega arith) ∙ ap (slice_index old) here

      number_is : slice_index (slice_range numbers head tail) (q - head) ≡ slice_index numbers q
      number_is = range_at numbers head tail (q - head) (omega arith) ∙ ap (slice_index numbers) here

      many : length (slice_range cells head tail) ≡ tail - head
      many = range_long cells head tail within

      finish : (next block : ℕ) → IsNthOrNowhere (length s.blocks) region.reached (slice_index s.blocks region.reached) block
          → min GREATEST_SPEED (min (slice_index cells (q - 1)) (region_at regions r).block - (slice_index cells q + 1)) ≡ min GREATEST_SPEED (min next block - (slice_index cells q + 1))
          → (0 < q - head → next ≡ slice_index (slice_range cells head tail) (q - head - 1)) → (q - head ≡ 0 → next ≡ 4294967295)
          → v ≡ slice_index (speeds p s t a) (mirrored (length (slice_range cells head tail)) (q - head))
      finish next block named free is_next is_none =
          let wish_is : wanted_speed (slice_index (slice_range old head tail) (q - head)) (region_at regions r).chances.limit (min GREATEST_SPEED (min next block - (slice_index (slice_range cells head tail) (q - head) + 1))) ≡ wish =
          (λ j. wanted_speed (speed_is j) (region_at regions r).chances.limit (min GREATEST_SPEED (min next block - (cell_is j + 1)))) ∙ ap (λ n. wanted_speed (slice_index old q) (region_at regions r).chances.limit n) (sym free) in
          column_speed p s t a (slice_range cells head tail) (slice_range old head tail) (slice_range numbers head tail) (q - head) region.reached next block
          (region_at regions r).chances.limit (region_at regions r).chances.standing (region_at regions r).chances.moving (word p.words (slice_index (slice_range numbers head tail) (q - head)) t / 65536) v
          fits long (omega arith) rising columns (omega (arith, many))
          (subst (λ c. ArePartedAt s.blocks c region.reached) (sym cell_is) (region.parted (slice_index cells q) in_region on_road)) named is_next is_none
          (subst (λ c. AreOfZone s.limits s.starts s.chances (zone_of p c) (region_at regions r).chances.limit (region_at regions r).chances.standing (region_at regions r).chances.moving) (sym cell_is)
          (region.alike (slice_index cells q) in_region on_road))
          (λ _. refl)
          (λ w right. is w (λ moves. ap (λ m. word p.words m t / 65536) (sym number_is) ∙ right (subst (λ m. 0 < m) (sym wish_is) moves))
          ∙ (λ j. slowed_speed (sym wish_is j) (comes_about w (chance_at (sym speed_is j) (region_at regions r).chances.standing (region_at regions r).chances.moving))))

      -- by whether there is a car in front of this one
      by_front : (block : ℕ) → IsNthOrNowhere (length s.blocks) region.reached (slice_index s.blocks region.reached) block
          → ((ahead ahead' : ℕ) → (ahead ≡ ahead') ⊎ ((slice_index cells q + 10 ≤ ahead) × (slice_index cells q + 10 ≤ ahead'))
          → min GREATEST_SPEED (min ahead (region_at regions r).block - (slice_index cells q + 1)) ≡ min GREATEST_SPEED (min ahead' block - (slice_index cells q + 1)))
          → v ≡ slice_index (speeds p s t a) (mirrored (length (slice_range cells head tail)) (q - head))
      by_front block named free = elim (cases_lt head q) as (λ _. v ≡ slice_index (speeds p s t a) (mirrored (length (slice_range cells head tail)) (q - head))) [
        | inl behind ↦
            let back : head + (q - head - 1) ≡ q - 1 = omega arith in
            finish (slice_index cells (q - 1)) block named (free (slice_index cells (q - 1)) (slice_index cells (q - 1)) (inl refl))
            (λ some. sym (range_at cells head tail (q - head - 1) (omega arith) ∙ ap (slice_index cells) back)) (λ none. absurd (omega arith))
        | inr first ↦
            let same : head - 1 ≡ q - 1 = omega arith in
            let at = ap (slice_index cells) same in
            finish 4294967295 block named (free (slice_index cells (q - 1)) 4294967295 (inr (omega arith, omega arith)))
            (λ some. absurd (omega arith)) (λ _. refl)
      ]
